use Rattle.std.proofs.Common.{◌≡◌, ◌-◌, ◌++◌, ◌∙◌, sym, ap, subst, length}
use Rattle.std.proofs.lemmas.List.Kept.{IsStrictlySortedBy-filter}
use Rattle.std.proofs.lemmas.Result.{IfOk-weaker}
use Rattle.definitions.specs.Items.{item_cmp, contains}
use Rattle.definitions.specs.Sets.{IsSet, items_in}
use Rattle.range_tree.specs.Nodes.{items_of, span}
use Rattle.range_tree.specs.Branches.{branch_items}
use Rattle.range_tree.specs.Leaves.{leaf_items}
use Rattle.range_tree.specs.Trees.{tree_items}
use Rattle.range_tree.proofs.Places.{span_whole}
use Rattle.range_tree.proofs.tree.Tree.within.Goals as goal
use Rattle.range_tree.proofs.tree.Tree.within.Goals.{In_ok-branches_over}

pub returns-then-saturating_sub-len : goal.returns-then-saturating_sub-len
returns-then-saturating_sub-len c =
    let A = tree_items c.args.self.now in
    let from = c.places-from.result.0 in
    let to = c.places-from.result.1 in
    let all : to - from ≡ length A =
    sym c.saturating_sub.ensures ∙ c.if-saturating_sub-len.true ∙ c.len.ensures in
    let whole : A ≡ items_in A c.args.range.now =
    sym (span_whole from to A c.places-from.ensures.within all) ∙ c.places-from.ensures.places in
    record { items = IfOk-weaker c.copy.result _ _ (λ tree is. is ∙ whole) c.copy.ensures }

-- what the new branches hold
held : (c : goal.In_ok-branches_over) →
    items_of branch_items c.in_ok-branches_over.field-0.items ≡ items_in (tree_items c.args.self.now) c.args.range.now
held c =
    let there = span c.places-from.result.0 c.places-from.result.1 (tree_items c.args.self.now) in
    c.in_ok-branches_over.ensures.items ∙ ap (items_of leaf_items) c.deref.ensures.value
    ∙ c.in_ok-push_branches.ensures.items ∙ ap (λ ls. items_of leaf_items ls ++ there) c.new-leaves.ensures.items
    ∙ c.places-from.ensures.places

-- a part of a set is a set
pub tree_of-requires-clause-rises : goal.tree_of-requires-clause-rises
tree_of-requires-clause-rises c =
    subst IsSet (sym (held c))
    (IsStrictlySortedBy-filter item_cmp (contains c.args.range.now) (tree_items c.args.self.now) c.args.self.now.rises)
