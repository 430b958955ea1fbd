-- The items of a range of several sets, one set after the other.
--     between from to            the range from one item on and before another, where they are given
--     left content X n stores    those of range X that are left, after n of the first set's
use Rattle.std.specs.Prelude.{ℕ, List, [], ◌∷◌, ◌++◌, drop, flat_map, Option, Some, None}
use Rattle.definitions.specs.Items.{Item, Range}
use Rattle.definitions.specs.Sets.{items_in}

abbrev pub between : Option Item → Option Item → Range
between None to = record { lower = []; upper = to }
between (Some from) to = record { lower = from; upper = to }

abbrev pub left : {S : Type 0} → (S → List Item) → Range → ℕ → List S → List Item
left content X n [] = []
left content X n (s ∷ stores) = drop n (items_in (content s) X) ++ flat_map (λ s. items_in (content s) X) stores
