use Rattle.std.proofs.Common.{◌≡◌}
use Rattle.sim_core.specs.Runs.{delivered}
use Rattle.sim_core.proofs.sim.deliver_often.Given as goal

abbrev pub invariant-loop-left : goal.invariant-loop-left
invariant-loop-left l = delivered l.left l.world l.session ≡ delivered l.times l.fn.world l.session

abbrev pub decreases-loop-left : goal.decreases-loop-left
decreases-loop-left l = l.left
