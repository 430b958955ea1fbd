-- What a scenario holds.
--     FitsItsCap n      the node has no more items than its table's cap
use Rattle.std.specs.Prelude.{◌≤◌, List, length}
use Rattle.definitions.specs.Items.{Item}
use Rattle.definitions.specs.Sets.{set_of}
use Rattle.strategy_check.specs.Checked.{Checked}
use Rattle.sim_core.specs.declared.scenario.ScenarioStep.{ScenarioStep}

-- a table that was accepted, with its ranks, and the items of a node
pub record NodeText : Type 0 where
  pub accepted : Checked
  pub items : List Item

abbrev pub FitsItsCap : NodeText → Type 0
FitsItsCap n = length (set_of n.items) ≤ n.accepted.table.cap

pub record ScenarioText : Type 0 where
  pub nodes : List NodeText
  pub steps : List ScenarioStep
