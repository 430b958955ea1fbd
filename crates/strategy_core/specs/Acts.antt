-- Words of the readers of a strategy.
--     kind_of act                List, or Split for a row that cuts
--     greatest ns                the greatest of some numbers, 0 for none
use Rattle.std.specs.Prelude.{ℕ, List, [], ◌∷◌, max}
use Rattle.definitions.specs.Strategies as strategies
use Rattle.strategy_core.specs.declared.act.Act.{Act}
use Rattle.strategy_core.specs.declared.act.Act.TheVariants.{List as Lists, Split}

abbrev pub kind_of : strategies.Act → Act
kind_of strategies.List_items = Lists
kind_of (strategies.Split weights) = Split
kind_of (strategies.Peel front) = Split

abbrev pub greatest : List ℕ → ℕ
greatest [] = 0
greatest (n ∷ ns) = max n (greatest ns)

-- a row's upto, and what it does
abbrev pub outline : strategies.Row → ℕ × Act
outline row = (row.upto, kind_of row.act)
