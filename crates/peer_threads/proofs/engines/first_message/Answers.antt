use Rattle.std.proofs.Common.{rules, ◌≡◌, [], Err, sym, ap, ◌∙◌, subst}
use Rattle.std.proofs.lemmas.Result.{err_from_is_err_and}
use Rattle.peer_threads.specs.declared.stop.Stop.TheVariants as stops
use Rattle.session_table.specs.declared.outcome.Direction.TheVariants as directions
use Rattle.peer_threads.specs.Outcomes.{seen}
use Rattle.peer_threads.specs.Listening.{InStep}
use Rattle.peer_threads.specs.Underway.{IsNone, message_came}
use Rattle.peer_threads.proofs.Listenings.{fares-by, unbroken}
use Rattle.peer_threads.proofs.FirstMessages.{reads-on, stops-begun}
use Rattle.peer_threads.proofs.Serving.{greeted, stops-ungreeted, stops-broken-after, told}
use Rattle.peer_threads.proofs.engines.first_message.Goals as goal

pub returns-in_err-inbox-clause-stopped : goal.returns-in_err-inbox-clause-stopped
returns-in_err-inbox-clause-stopped g c =
    told c.from_residual.result c.in_err-inbox.field-0.0 _ (search rules) (λ P.
    let r = seen c.args.connection.now.reader.failed c.args.connection.now.reader.ended in
    let stopped = stops-ungreeted g.F.WireSummary.summary g.F.WireSummary.profile c.exchange_laws.ensures P _
    c.args.hello.bytes (g.R.Read.remaining c.args.connection.now.reader.inner)
    (g.W.Write.contents c.args.connection.now.writer.inner) r c.args.connection.now.writer.failed
    c.in_err-inbox.field-0.0 c.requires.new
    c.requires.hello.fits (c.in_err-inbox.ensures.stopped r) in
    search (rules, stopped))

pub returns-in_err-greet-clause-stopped : goal.returns-in_err-greet-clause-stopped
returns-in_err-greet-clause-stopped g c =
    told c.from_residual-in_err-greet.result (stops.Io directions.Write) _ (search rules) (λ P.
    let stopped = stops-broken-after g.F.WireSummary.summary g.F.WireSummary.profile IsNone P c.args.sender.now
    c.greet.new.self c.args.hello.bytes
    (g.R.Read.remaining c.args.connection.now.reader.inner) (g.W.Write.contents c.args.connection.now.writer.inner)
    (g.W.Write.contents c.greet.new.writer.inner)
    (seen c.args.connection.now.reader.failed c.args.connection.now.reader.ended)
    c.greet.new.writer.failed c.requires.new c.in_err-greet.ensures.same
    c.in_err-greet.ensures.failed c.in_err-greet.ensures.front c.requires.hello.fits in
    search (rules, stopped))

pub returns-in_err-first-clause-stopped : goal.returns-in_err-first-clause-stopped
returns-in_err-first-clause-stopped g c =
    let is = err_from_is_err_and c.from_residual-in_err-first.result c.from_residual-in_err-first.ensures.1 in
    told c.from_residual-in_err-first.result c.in_err-first.field-0.0 _ (is.1 ∙ ap Err is.2) (λ P.
    let x = greeted g.F.WireSummary.summary g.F.WireSummary.profile _ _ _ _ _ _ _ c.requires.new
    c.in_ok-greet.ensures.greeted c.in_ok-greet.ensures.whole
    c.requires.hello.fits c.in_ok-inbox.ensures.read in
    let stopped = stops-begun g.F.WireSummary.summary g.F.WireSummary.profile c.exchange_laws.ensures P _ _ _ _ _ _
    c.greet.new.writer.failed c.in_err-first.field-0.0 x
    (c.in_err-first.ensures.stopped x.bytes [] x.are_bytes x.came) in
    search (rules, stopped))

pub returns-clause-met : goal.returns-clause-met
returns-clause-met g c =
    let x = greeted g.F.WireSummary.summary g.F.WireSummary.profile _ _ _ _ _ _ _ c.requires.new
    c.in_ok-greet.ensures.greeted c.in_ok-greet.ensures.whole
    c.requires.hello.fits c.in_ok-inbox.ensures.read in
    reads-on g.F.WireSummary.summary g.F.WireSummary.profile _ _ _ _ _ [] (message_came c.in_ok-first.first.items) x
    (c.in_ok-first.ensures.came x.bytes [] x.are_bytes x.came)

pub returns-in_err-inbox-clause-fared : goal.returns-in_err-inbox-clause-fared
returns-in_err-inbox-clause-fared g c = λ start step.
    let reader = c.args.connection.now.reader in
    let is : c.from_residual.result ≡ Err c.in_err-inbox.field-0.0 = search rules in
    fares-by start reader.reads reader.failed c.from_residual.result c.in_err-inbox.field-0.0 is
    (unbroken start reader.reads reader.failed c.in_err-inbox.field-0.0 c.in_err-inbox.ensures.quiet c.requires.listens)

pub returns-in_err-first-clause-fared : goal.returns-in_err-first-clause-fared
returns-in_err-first-clause-fared g c = λ start step.
    let begun = subst (InStep start c.args.connection.now.reader.reads) (sym c.in_ok-inbox.ensures.reads) step in
    let is = err_from_is_err_and c.from_residual-in_err-first.result c.from_residual-in_err-first.ensures.1 in
    fares-by start c.first_parts.new.reader.reads c.first_parts.new.reader.failed c.from_residual-in_err-first.result
    c.in_err-first.field-0.0 (is.1 ∙ ap Err is.2) (c.in_err-first.ensures.fared start begun)

pub returns-clause-step : goal.returns-clause-step
returns-clause-step g c = λ start step.
    let begun = subst (InStep start c.args.connection.now.reader.reads) (sym c.in_ok-inbox.ensures.reads) step in
    c.in_ok-first.ensures.step start begun
