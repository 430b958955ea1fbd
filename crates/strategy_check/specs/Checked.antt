-- What is accepted: a table and its ranks.
use Rattle.std.specs.Prelude.{ℕ, ◌≤◌, List}
use Rattle.definitions.specs.Strategies.{Table, IsTable}
use Rattle.definitions.specs.Ranks.{Accepted, IsServing, rank_by}

pub record Checked : Type 0 where
  pub table : Table
  pub steps : List ℕ

-- the ranks serve the table, and none exceeds the rounds
pub record IsChecked (a : Checked) : Type 0 where
  pub is_table : IsTable a.table
  pub accepted : Accepted a.table
  pub serving : IsServing a.table a.steps
  pub within : rank_by a.steps a.table.cap ≤ a.table.rounds
