use Rattle.std.proofs.Common.{refl, rules}
use Rattle.definitions.specs.Engines.{initiating}
use Rattle.peer_threads.specs.Outcomes.{Reader, IsTimely, seen}
use Rattle.peer_threads.proofs.Dialing.{begun-first, stops-silent, stops-broken, stops-first}
use Rattle.peer_threads.proofs.engines.speak.Goals as goal

pub returns-in_err-inbox-clause-talked : goal.returns-in_err-inbox-clause-talked
returns-in_err-inbox-clause-talked g c = λ p steps is opens.
    let stops = stops-silent g.F.WireSummary.summary g.F.WireSummary.profile (IsTimely c.args.sender.now.sent)
    (initiating g.F.WireSummary.summary p)
    c.args.sender.now
    (g.R.Read.remaining c.args.connection.now.reader.inner)
    (g.W.Write.contents c.args.connection.now.writer.inner)
    (seen c.args.connection.now.reader.failed c.args.connection.now.reader.ended)
    c.args.connection.now.writer.failed c.requires.new in
    search (rules, stops)

pub returns-in_err-greet-clause-talked : goal.returns-in_err-greet-clause-talked
returns-in_err-greet-clause-talked g c = λ p steps is opens.
    let stops = stops-broken g.F.WireSummary.summary g.F.WireSummary.profile (IsTimely c.greet.new.self.sent)
    (initiating g.F.WireSummary.summary p)
    c.args.sender.now c.greet.new.self
    (g.R.Read.remaining c.args.connection.now.reader.inner) (g.W.Write.contents c.args.connection.now.writer.inner)
    (g.W.Write.contents c.greet.new.writer.inner)
    (seen c.args.connection.now.reader.failed c.args.connection.now.reader.ended)
    c.greet.new.writer.failed c.requires.new c.in_err-greet.ensures.same c.in_err-greet.ensures.failed
    c.in_err-greet.ensures.front in
    search (rules, stops)

pub returns-in_err-say-clause-talked : goal.returns-in_err-say-clause-talked
returns-in_err-say-clause-talked g c = λ p steps is opens.
    let stops = stops-first g.F.WireSummary.summary g.F.WireSummary.profile p c.args.sender.now c.greet.new.self
    c.say.new.sender
    (g.R.Read.remaining c.args.connection.now.reader.inner) (g.W.Write.contents c.args.connection.now.writer.inner)
    (g.W.Write.contents c.greet.new.writer.inner)
    (g.W.Write.contents c.say.new.writer.inner)
    (seen c.args.connection.now.reader.failed c.args.connection.now.reader.ended)
    c.say.new.writer.failed c.args.first.now c.in_err-say.field-0.0 opens c.requires.new c.in_ok-greet.ensures.whole
    c.in_ok-greet.ensures.greeted c.in_err-say.ensures.unsaid in
    search (rules, stops)

pub returns-clause-talked : goal.returns-clause-talked
returns-clause-talked g c = λ p steps is opens.
    let u = begun-first g.F.WireSummary.summary g.F.WireSummary.profile p
    c.args.party.now steps c.in_ok-inbox.inbox c.args.sender.now c.greet.new.self c.say.new.sender
    (g.R.Read.remaining c.args.connection.now.reader.inner) (g.W.Write.contents c.args.connection.now.writer.inner)
    (g.W.Write.contents c.greet.new.writer.inner)
    (g.W.Write.contents c.say.new.writer.inner) c.args.first.now is opens c.in_ok-inbox.ensures.read c.requires.new
    c.in_ok-greet.ensures.whole c.in_ok-greet.ensures.greeted c.in_ok-say.ensures.said in
    c.talk.ensures.talked (initiating g.F.WireSummary.summary p)
    (Reader (g.R.Read.remaining c.args.connection.now.reader.inner))
    (g.W.Write.contents c.args.connection.now.writer.inner) refl u
