use Rattle.std.proofs.Common.{◌≡◌, ◌++◌, length, map}
use Rattle.std.specs.Arc.{arc_value}
use Rattle.std.specs.List.{AllByRecursion}
use Rattle.definitions.specs.Items.{IsItem}
use Rattle.range_tree.specs.Nodes.{items_of}
use Rattle.range_tree.specs.Leaves.{leaf_items, leaf_width}
use Rattle.range_tree.proofs.Groups.{IsGrouped}
use Rattle.range_tree.proofs.loading.leaves_of.Given as goal

abbrev pub invariant-groups : goal.invariant-groups
invariant-groups l = record {
  items : items_of leaf_items l.held.items ++ l.rest ≡ l.items;
  are_items : AllByRecursion IsItem (items_of leaf_items l.held.items);
  grouped : IsGrouped leaf_width (map arc_value l.held.items) (length l.rest);
}

abbrev pub decreases-groups : goal.decreases-groups
decreases-groups l = length l.rest
