use Rattle.sim_core.specs.Scenarios.{item_in}
use Rattle.sim_core.proofs.ScenarioReadings.{ReadTo}
use Rattle.sim_core.proofs.scenario_text.listed.Given as goal

abbrev pub invariant-loop-value : goal.invariant-loop-value
invariant-loop-value l = ReadTo (λ _ d. item_in d) l.array.items l.value-index l.items.items
