-- The table of a scenario's text.
use Rattle.std.specs.Prelude.{◌≡◌, ℕ, List, String, Result, Ok, Err, ⊤}
use Rattle.std.specs.BTreeMap.{BTreeMap}
use Rattle.std.specs.declared.alloc.Global.{Global}
use Rattle.toml.specs.View.{table_view}
use Rattle.toml.specs.declared.value.Value.{Value}
use Rattle.strategy_core.specs.Texts.{IsDocument, IsText}
use Rattle.sim_core.specs.declared.scenario_fault.ScenarioFault.TheVariants.{NotToml}
use Rattle.sim_core.specs.declared.scenario_fault.ScenarioError.{ScenarioError}
use Rattle.sim_core.specs.declared.scenario_fault.ScenarioError.TheVariants as errors

-- the table of a text, or that there is none
abbrev pub Opens : Result (BTreeMap (String Global) Value) ScenarioError → List ℕ → Type 0
Opens (Ok table) text = IsDocument text (table_view table)
Opens (Err errors.Memory) text = ⊤
Opens (Err (errors.Fault f)) text = (f ≡ NotToml) × (IsText text → ⊥)
