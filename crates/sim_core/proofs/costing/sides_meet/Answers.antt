use Rattle.std.proofs.Common.{subst}
use Rattle.std.specs.Arc.{arc_value}
use Rattle.session_core.specs.Pairs.{SessionsMeet}
use Rattle.sim_core.proofs.costing.sides_meet.Goals as goal

pub returns : goal.returns
returns g c =
    let S = g.F.WireSummary.summary in
    let W = g.F.WireSummary.profile in
    subst (λ b. SessionsMeet S W (arc_value c.args.accepted.now) b) c.deref-2.ensures
    (subst (λ a. SessionsMeet S W a c.deref-2.result.now) c.deref.ensures c.two_sessions_meet.ensures)
