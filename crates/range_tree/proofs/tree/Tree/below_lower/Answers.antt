use Rattle.std.proofs.Common.{◌≡◌, [], sym, subst, ◌∙◌, rules, length}
use Rattle.std.proofs.lemmas.List.{nil_from_length}
use Rattle.definitions.specs.Items.{comes_before}
use Rattle.range_tree.specs.Nodes.{PassFirst}
use Rattle.range_tree.specs.Trees.{tree_items}
use Rattle.range_tree.proofs.Ranks.{pass_start}
use Rattle.range_tree.proofs.tree.Tree.below_lower.Goals as goal

pub returns-then-is_empty-clause-places : goal.returns-then-is_empty-clause-places
returns-then-is_empty-clause-places c =
    let A = tree_items c.args.self.now in
    let lower = c.args.lower.now in
    let zero : length c.bytes.result.now ≡ 0 = search (rules, c.if-is_empty.ensures) in
    let none : lower ≡ [] = sym c.bytes.ensures.bytes ∙ nil_from_length c.bytes.result.now zero in
    subst (λ b. PassFirst (λ z. comes_before z b) A 0) (sym none) (pass_start A)
