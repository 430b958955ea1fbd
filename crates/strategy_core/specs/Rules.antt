-- What a row does, and what bounds and what opening a table has, as the definitions have it.
use Rattle.definitions.specs.Strategies.{Act, List_items, Split, Peel}
use Rattle.definitions.specs.Strategies as strategies
use Rattle.strategy_core.specs.declared.bounds.Bounds.{Bounds}
use Rattle.strategy_core.specs.declared.bounds.Bounds.TheVariants as bounds
use Rattle.strategy_core.specs.declared.opening.Opening.{Opening}
use Rattle.strategy_core.specs.declared.opening.Opening.TheVariants as openings
use Rattle.strategy_core.specs.declared.row.Rule.{Rule}
use Rattle.strategy_core.specs.declared.row.Rule.TheVariants as rules

abbrev pub act_of : Rule → Act
act_of rules.List = List_items
act_of (rules.Split weights) = Split weights
act_of (rules.Peel front) = Peel front

abbrev pub bounds_of : Bounds → strategies.Bounds
bounds_of bounds.Items = strategies.At_items
bounds_of bounds.Short = strategies.Short

abbrev pub opening_of : Opening → strategies.Opening
opening_of openings.Sum = strategies.Open_sum
opening_of openings.Split = strategies.Open_split
