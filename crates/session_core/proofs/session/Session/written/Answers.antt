use Rattle.std.proofs.Common.{rules}
use Rattle.ends_core.specs.Sides.{said_to}
use Rattle.session_core.proofs.Writing.{written-so}
use Rattle.session_core.proofs.session.Session.written.Goals as goal

pub returns-clause-whole : goal.returns-clause-whole
returns-clause-whole g c = λ s pushed taken k.
    written-so g.F.WireSummary.profile (said_to g.F.WireSummary.summary g.F.WireSummary.profile s pushed) taken
    c.args.self.now.talk.outbox c.args.self.now.talk.held.end.sent c.written.result k.tells.sent (search rules)
    k.tells.laid
