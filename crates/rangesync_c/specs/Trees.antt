-- Stores of shards.
--     held_in stores      the items of each
--     sizes Xs            how many items all lists have
use Rattle.std.specs.Prelude.{ℕ, ◌+◌, List, [], ◌∷◌, length, map}
use Rattle.definitions.specs.Items.{Item}
use Rattle.range_tree.specs.Trees.{tree_items}
use Rattle.range_tree.specs.declared.tree.Tree.{Tree}

abbrev pub held_in : List Tree → List (List Item)
held_in stores = map tree_items stores

abbrev pub sizes : List (List Item) → ℕ
sizes [] = 0
sizes (X ∷ Xs) = length X + sizes Xs
