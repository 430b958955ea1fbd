-- What a load of many items makes.
use Rattle.std.specs.Prelude.{◌≡◌, List, map}
use Rattle.std.specs.Arc.{arc_value}
use Rattle.std.specs.List.{AllByRecursion}
use Rattle.std.specs.declared.sync.Arc.{Arc}
use Rattle.definitions.specs.Items.{Item, IsItem}
use Rattle.range_tree.specs.declared.leaf.Leaf.{Leaf}
use Rattle.range_tree.specs.Leaves.{leaf_items, leaf_width}
use Rattle.range_tree.specs.Nodes.{items_of, IsFull}

-- the leaves hold these items, and each has at least 32, but where it is the only one
pub record AreLeavesOf {Z : Type 0} (A : List Item) (leaves : List (Arc Leaf Z)) : Type 0 where
  pub items : items_of leaf_items leaves ≡ A
  pub are_items : AllByRecursion IsItem A
  pub full : IsFull leaf_width (map arc_value leaves)
