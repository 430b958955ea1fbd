use Rattle.std.proofs.Common.{◌≡◌, ◌≤◌, ◌-◌}
use Rattle.sim_core.specs.Samples.{items_from}
use Rattle.sim_core.proofs.sample.items_between.Given as goal

abbrev pub invariant-loop-number : goal.invariant-loop-number
invariant-loop-number l = record {
  so_far : l.items.items ≡ items_from l.size l.first (l.number - l.first);
  order : l.first ≤ l.number;
}
