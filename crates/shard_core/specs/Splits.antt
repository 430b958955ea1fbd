-- Lists of shards, and those that have too many items.
--     held vs                  the items of each list
--     HasRoom cap Xs           no set has more items than the cap
--     IsAbove cap Xs s         set s is the first that has
--     IsFull cap Xs e          a refusal that is not for memory names it
use Rattle.std.specs.Prelude.{⊤, ℕ, ◌<◌, ◌≤◌, List, [], length, map, take, get_or, Vec}
use Rattle.std.specs.declared.alloc.Global.{Global}
use Rattle.std.specs.List.{AllByRecursion}
use Rattle.definitions.specs.Items.{Item}
use Rattle.shard_core.specs.declared.fault.SplitFault.{SplitFault}
use Rattle.shard_core.specs.declared.fault.SplitFault.TheVariants.{TooManyItems, Memory}

abbrev pub held : List (Vec Item Global) → List (List Item)
held vs = map (λ v. v.items) vs

abbrev pub HasRoom : ℕ → List (List Item) → Type 0
HasRoom cap Xs = AllByRecursion (λ X. length X ≤ cap) Xs

abbrev pub IsAbove : ℕ → List (List Item) → ℕ → Type 0
IsAbove cap Xs s = (s < length Xs) × (cap < length (get_or Xs s [])) × HasRoom cap (take s Xs)

abbrev pub IsFull : ℕ → List (List Item) → SplitFault → Type 0
IsFull cap Xs (TooManyItems s) = IsAbove cap Xs s
IsFull cap Xs Memory = ⊤
