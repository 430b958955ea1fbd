use Rattle.std.proofs.Common.{◌≡◌, ◌++◌, length, map}
use Rattle.std.specs.Arc.{arc_value}
use Rattle.range_tree.specs.Nodes.{items_of, IsFull}
use Rattle.range_tree.specs.Leaves.{leaf_items, leaf_width}
use Rattle.range_tree.specs.Branches.{branch_items, branch_width}
use Rattle.range_tree.proofs.Groups.{IsGrouped}
use Rattle.range_tree.proofs.loading.branches_over.Given as goal

abbrev pub invariant-groups : goal.invariant-groups
invariant-groups l = record {
  items : items_of branch_items l.held.items ++ items_of leaf_items l.rest ≡ items_of leaf_items l.leaves;
  grouped : IsGrouped branch_width (map arc_value l.held.items) (length l.rest);
  full : IsFull leaf_width (map arc_value l.rest);
}

abbrev pub decreases-groups : goal.decreases-groups
decreases-groups l = length l.rest
