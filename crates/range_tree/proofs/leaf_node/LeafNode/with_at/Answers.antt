use Rattle.std.proofs.Common.{◌∙◌, ap, length, arith}
use Rattle.std.proofs.lemmas.Result.{IfOk-weaker}
use Rattle.range_tree.specs.Leaves.{leaf_width}
use Rattle.range_tree.proofs.Places.{length_put}
use Rattle.range_tree.proofs.Widths.{grew_narrower}
use Rattle.range_tree.proofs.leaf_node.LeafNode.with_at.Goals as goal

pub returns-clause-widths : goal.returns-clause-widths
returns-clause-widths c =
    let old = leaf_width c.args.self.now in
    let longer = ap length c.in_ok-with.ensures ∙ length_put c.args.place c.args.hashed c.args.self.now.packed in
    IfOk-weaker c.one_or_two.result _ _
    (λ grown wide. grew_narrower leaf_width grown (length c.in_ok-with.field-0) old (omega arith) wide)
    c.one_or_two.ensures.widths
