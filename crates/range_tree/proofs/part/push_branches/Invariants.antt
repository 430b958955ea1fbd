use Rattle.std.proofs.Common.{◌≡◌, ◌++◌, drop, map}
use Rattle.std.specs.Arc.{arc_value}
use Rattle.std.specs.List.{flat_map}
use Rattle.range_tree.specs.Nodes.{items_of, span, IsFull}
use Rattle.range_tree.specs.Leaves.{leaf_items, leaf_width}
use Rattle.range_tree.specs.Branches.{branch_items}
use Rattle.range_tree.proofs.part.push_branches.Given as goal

-- what is held so far, and what the rest has between the places that are left
abbrev pub invariant-loop-branch : goal.invariant-loop-branch
invariant-loop-branch l = record {
  items : items_of leaf_items l.held.items ++ span l.left.from l.left.to (items_of branch_items (drop l.branch-index l.branches))
      ≡ items_of leaf_items l.fn.held.items ++ span l.fn.at.from l.fn.at.to (flat_map branch_items l.row);
  full : IsFull leaf_width (map arc_value l.held.items);
}
