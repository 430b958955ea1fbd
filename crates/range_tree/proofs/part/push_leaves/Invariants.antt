use Rattle.std.proofs.Common.{◌≡◌, ◌++◌, drop, map}
use Rattle.std.specs.Arc.{arc_value}
use Rattle.std.specs.List.{flat_map}
use Rattle.range_tree.specs.Nodes.{items_of, span, IsFull}
use Rattle.range_tree.specs.Leaves.{leaf_items, leaf_width}
use Rattle.range_tree.proofs.part.push_leaves.Given as goal

-- what is held so far, and what the rest has between the places that are left
abbrev pub invariant-loop-leaf : goal.invariant-loop-leaf
invariant-loop-leaf l = record {
  items : items_of leaf_items l.held.items ++ span l.left.from l.left.to (items_of leaf_items (drop l.leaf-index l.leaves))
      ≡ items_of leaf_items l.fn.held.items ++ span l.fn.at.from l.fn.at.to (flat_map leaf_items l.row);
  full : IsFull leaf_width (map arc_value l.held.items);
}
