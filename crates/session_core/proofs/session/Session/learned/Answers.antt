use Rattle.std.proofs.Common.{rules, ◌≡◌}
use Rattle.session_core.specs.declared.state.State.TheVariants as states
use Rattle.session_core.proofs.Knowing.{learned-known}
use Rattle.session_core.proofs.session.Session.learned.Goals as goal

pub returns-in-Ended-clause-known : goal.returns-in-Ended-clause-known
returns-in-Ended-clause-known g c = λ P pushed taken k.
    let ended : c.args.self.now.talk.state ≡ states.Ended = search rules in
    let known = learned-known g.F.WireSummary.summary g.F.WireSummary.profile
    (c.initiator_learns.ensures g.F.WireSummary.summary) (c.responder_learns.ensures g.F.WireSummary.summary)
    g.R.Role.side P c.args.self.now pushed taken ended k in
    search (rules, known)
