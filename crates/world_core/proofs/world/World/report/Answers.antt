use Rattle.std.proofs.Common.{ap, ◌∙◌}
use Rattle.std.specs.Prelude.{Some}
use Rattle.world_core.specs.Runs.{Holds}
use Rattle.world_core.proofs.Delivering.{All-found}
use Rattle.world_core.proofs.Ended.{looked_at, report_is}
use Rattle.world_core.proofs.world.World.report.Goals as goal

pub returns-clause-report : goal.returns-clause-report
returns-clause-report g c =
    let there = looked_at c.self.inside.sessions.items c.deref.result.now c.args.session c.in_ok-session.session.now
    c.deref.ensures.value c.in_ok-session.ensures.lookup.3.0 c.in_ok-session.ensures.lookup.1 in
    ap Some c.report.ensures ∙ report_is g.F.WireSummary.summary c.look_laws.ensures c.args.self.now
    c.self.inside.nodes.items c.self.inside.sessions.items c.args.session c.in_ok-session.session.now c.self.view_is
    c.self.invariant there

pub returns-clause-holds : goal.returns-clause-holds
returns-clause-holds g c = λ s e.
    All-found (Holds g.F.WireSummary.summary c.args.self.now) c.args.self.now.sessions c.args.session s e
    c.sessions.ensures.hold
