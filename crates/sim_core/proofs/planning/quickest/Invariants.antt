use Rattle.std.proofs.Common.{IfSome}
use Rattle.sim_core.specs.Plans.{IsTimed}
use Rattle.sim_core.proofs.planning.quickest.Given as goal

abbrev pub invariant-loop-shipped : goal.invariant-loop-shipped
invariant-loop-shipped l = IfSome l.best (IsTimed l.task.line l.task.sample)
