use Rattle.std.proofs.Common.{◌≡◌, ◌∙◌, sym, ap, subst}
use Rattle.std.specs.List.{flat_map, AllByRecursion}
use Rattle.definitions.specs.Items.{IsItem}
use Rattle.definitions.specs.Sets.{IsSet, add_item}
use Rattle.definitions.proofs.Additions.{set_add, all_add}
use Rattle.range_tree.specs.Branches.{branch_items}
use Rattle.range_tree.specs.Trees.{tree_items}
use Rattle.range_tree.proofs.Places.{put}
use Rattle.range_tree.proofs.tree_store.TreeRangeStore.with.Goals as goal

-- what the new branches hold
added : (c : goal.In_ok-branches) →
    flat_map branch_items c.in_ok-branches.branches ≡ add_item (tree_items c.args.self.now) c.args.item
added c =
    c.in_ok-branches.ensures.items ∙ ap (λ e. put c.in-Some.place e (tree_items c.args.self.now)) c.new.ensures.item
    ∙ sym c.in-Some.ensures.gap

pub tree_over-requires-clause-rises : goal.tree_over-requires-clause-rises
tree_over-requires-clause-rises c =
    subst IsSet (sym (added c))
    (set_add (tree_items c.args.self.now) c.args.item c.args.self.now.rises)

pub tree_over-requires-clause-are_items : goal.tree_over-requires-clause-are_items
tree_over-requires-clause-are_items c =
    subst (AllByRecursion IsItem) (sym (added c))
    (all_add IsItem (tree_items c.args.self.now) c.args.item c.args.self.now.are_items c.new.ensures.is_item)
