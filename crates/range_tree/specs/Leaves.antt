-- What a leaf holds.
use Rattle.std.specs.Prelude.{ℕ, List, length}
use Rattle.definitions.specs.Items.{Item}
use Rattle.range_tree.specs.declared.leaf.Leaf.{Leaf}

abbrev pub leaf_items : Leaf → List Item
leaf_items l = l.packed

abbrev pub leaf_width : Leaf → ℕ
leaf_width l = length l.packed
