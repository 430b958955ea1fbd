-- Weights kept with their sum, and what a row does as it is kept.
use Rattle.std.specs.Prelude.{◌≡◌, ℕ, List, sum}
use Rattle.definitions.specs.Strategies.{Split, IsAct}

pub record IsWeighed (weights : List ℕ) (total : ℕ) : Type 0 where
  pub weights_are : IsAct (Split weights)
  pub total_is : total ≡ sum weights
