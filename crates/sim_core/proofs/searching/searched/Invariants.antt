use Rattle.std.proofs.Common.{◌≤◌}
use Rattle.sim_core.specs.Plans.{IsPlanned, IsTimed}
use Rattle.sim_core.proofs.searching.searched.Given as goal

abbrev pub invariant-loop : goal.invariant-loop
invariant-loop g l = record {
  planned : IsPlanned l.task.sample l.found.planned;
  timed : IsTimed l.task.line l.task.sample l.fn.start → IsTimed l.task.line l.task.sample l.found.planned;
  never_slower : l.found.planned.micros ≤ l.fn.start.micros;
}
