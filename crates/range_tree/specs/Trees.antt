-- What a tree holds.
use Rattle.std.specs.Prelude.{List}
use Rattle.std.specs.List.{flat_map}
use Rattle.definitions.specs.Items.{Item}
use Rattle.range_tree.specs.Branches.{branch_items}
use Rattle.range_tree.specs.declared.tree.Tree.{Tree}

-- the items, in rising order
abbrev pub tree_items : Tree → List Item
tree_items t = flat_map branch_items t.branches
