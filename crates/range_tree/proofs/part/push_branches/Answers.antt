use Rattle.std.proofs.Common.{◌≡◌, ◌++◌, ◌∙◌, ap, Global}
use Rattle.std.specs.Arc.{arc_value}
use Rattle.std.specs.declared.sync.Arc.{Arc}
use Rattle.range_tree.specs.declared.branch.Branch.{Branch}
use Rattle.range_tree.specs.Nodes.{items_of, span}
use Rattle.range_tree.specs.Leaves.{leaf_items}
use Rattle.range_tree.specs.Branches.{branch_items}
use Rattle.range_tree.proofs.Places.{span_next}
use Rattle.range_tree.proofs.part.push_branches.Goals as goal

pub loop-branch-preserved : goal.loop-branch-preserved
loop-branch-preserved c =
    let value : Arc Branch Global → Branch = arc_value {X = Branch} in
    let left = c.loop-branch.left in
    let before = items_of leaf_items c.loop-branch.held.items in
    let adds : items_of leaf_items c.push_leaves.new.held.items
    ≡ before ++ span left.from left.to (branch_items (value c.branch-item.result)) =
    c.in_ok-push_leaves.ensures.items ∙ ap (λ b. before ++ span left.from left.to (branch_items b)) c.deref.ensures in
    record {
      items = rw (c.behind-left.ensures.from, c.behind-left.ensures.to, c.len.ensures, c.deref-in-loop-branch.ensures)
          (span_next branch_items value c.nodes_at.result.0.now c.loop-branch.branch-index c.branch-item.result left.from
          left.to before (items_of leaf_items c.push_leaves.new.held.items) _ c.loop-branch-test.true c.branch-item.is
          c.loop-branch.invariant.items adds);
      full = c.in_ok-push_leaves.ensures.full;
    }
