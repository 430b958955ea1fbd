use Rattle.std.proofs.Common.{rules, ◌<◌, [], ◌∷◌, ◌++◌, length, map, sym, ap, subst, ◌∙◌, append_assoc}
use Rattle.std.specs.Arc.{arc_value}
use Rattle.std.proofs.lemmas.List.{map-append}
use Rattle.range_tree.specs.declared.leaf.Leaf.{Leaf}
use Rattle.range_tree.specs.declared.branch.Branch.{Branch}
use Rattle.range_tree.specs.Nodes.{items_of}
use Rattle.range_tree.specs.Leaves.{leaf_items, leaf_width}
use Rattle.range_tree.specs.Branches.{branch_items, branch_width}
use Rattle.range_tree.proofs.Groups.{IsGrouped, grouped_more, full_sides, items_sides, items_more}
use Rattle.range_tree.proofs.loading.branches_over.Goals as goal

pub branch_of-requires-clause-full : goal.branch_of-requires-clause-full
branch_of-requires-clause-full c =
    let sides =
    full_sides leaf_width (arc_value {X = Leaf}) c.group_size.result c.groups.rest.now c.split_at.result.0.now
    c.split_at.result.1.now c.split_at.ensures.front c.split_at.ensures.back c.groups.invariant.full in
    sides.0

pub groups-preserved : goal.groups-preserved
groups-preserved c =
    let n = c.group_size.result in
    let rest = c.groups.rest.now in
    let front = c.split_at.result.0.now in
    let back = c.split_at.result.1.now in
    let held = c.groups.held.items in
    let branch = c.in_ok-branch_of.field-0 in
    let some : 0 < length rest = search rules in
    let sides = full_sides leaf_width
    (arc_value {X = Leaf}) n rest front back c.split_at.ensures.front c.split_at.ensures.back c.groups.invariant.full in
    let grouped = grouped_more branch_width (map (arc_value {X = Branch}) held) (arc_value branch) (length rest) n
    (length back) c.groups.invariant.grouped some c.group_size.ensures.few c.group_size.ensures.many
    (c.in_ok-branch_of.ensures.width ∙ c.split_at.ensures.front_len) c.split_at.ensures.back_len in
    record {
      items =
          ap (λ t. items_of branch_items t ++ items_of leaf_items back) c.in_ok-push.ensures.items
          ∙ ap (λ t. t ++ items_of leaf_items back) (items_more branch_items (arc_value {X = Branch}) held branch)
          ∙ append_assoc (items_of branch_items held) (branch_items (arc_value branch)) (items_of leaf_items back)
          ∙ ap (λ t. items_of branch_items held ++ (t ++ items_of leaf_items back)) c.in_ok-branch_of.ensures.items
          ∙ ap (λ t. items_of branch_items held ++ t) (items_sides leaf_items
          (arc_value {X = Leaf}) n rest front back c.split_at.ensures.front c.split_at.ensures.back)
          ∙ c.groups.invariant.items;
      grouped = subst (λ ps. IsGrouped branch_width ps (length back)) (sym (ap (map (arc_value {X = Branch}))
          c.in_ok-push.ensures.items ∙ map-append (arc_value {X = Branch}) held (branch ∷ []))) grouped;
      full = sides.1;
    }
