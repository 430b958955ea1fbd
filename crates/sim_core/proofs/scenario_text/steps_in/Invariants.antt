use Rattle.std.proofs.Common.{◌≡◌, length}
use Rattle.sim_core.specs.Scenarios.{step_in}
use Rattle.sim_core.proofs.ScenarioReadings.{ReadTo}
use Rattle.sim_core.proofs.scenario_text.steps_in.Given as goal

abbrev pub invariant-loop-value : goal.invariant-loop-value
invariant-loop-value l = record {
  so_far : ReadTo step_in l.array.items l.value-index l.steps.items;
  number : length l.steps.items ≡ l.value-index;
}
