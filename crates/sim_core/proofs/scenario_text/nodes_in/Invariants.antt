use Rattle.std.proofs.Common.{◌≡◌, length}
use Rattle.sim_core.specs.Scenarios.{node_in}
use Rattle.sim_core.proofs.ScenarioReadings.{ReadTo}
use Rattle.sim_core.proofs.scenario_text.nodes_in.Given as goal

abbrev pub invariant-loop-value : goal.invariant-loop-value
invariant-loop-value l = record {
  so_far : ReadTo node_in l.array.items l.value-index l.nodes.items;
  number : length l.nodes.items ≡ l.value-index;
}
