use Rattle.std.proofs.Common.{length, ap, ◌∙◌}
use Rattle.std.specs.Arc.{arc_value}
use Rattle.std.proofs.lemmas.List.{length-map}
use Rattle.std.proofs.lemmas.Result.{IfOk-weaker}
use Rattle.range_tree.specs.declared.branch.Branch.{Branch}
use Rattle.range_tree.specs.Branches.{branch_width}
use Rattle.range_tree.proofs.Widths.{full_alone}
use Rattle.range_tree.proofs.tree_store.branches_with.Goals as goal

pub returns-then-is_empty-clause-full : goal.returns-then-is_empty-clause-full
returns-then-is_empty-clause-full c =
    let one = c.in_ok-branches_of_one.ensures.one in
    IfOk-weaker c.of.result _ _ (λ row h full. full_alone branch_width row
    (ap length h ∙ length-map _ (arc_value {X = Branch}) ∙ one)) c.of.ensures
