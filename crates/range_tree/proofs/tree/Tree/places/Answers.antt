use Rattle.std.proofs.Common.{subst}
use Rattle.definitions.specs.Items.{comes_before, is_below}
use Rattle.range_tree.specs.Nodes.{PassFirst}
use Rattle.range_tree.specs.Trees.{tree_items}
use Rattle.range_tree.proofs.Places.{between_both}
use Rattle.range_tree.proofs.tree.Tree.places.Goals as goal

pub returns-clause-places : goal.returns-clause-places
returns-clause-places c =
    let A = tree_items c.args.self.now in
    let X = c.args.range.now in
    let from = c.below_lower-from.result.0 in
    let to = c.below_upper-to.result.0 in
    let low =
    subst (λ b. PassFirst (λ z. comes_before z b) A from) c.lower.ensures.lower c.below_lower-from.ensures.places in
    let high = subst (λ b. PassFirst (λ z. is_below z b) A to) c.upper.ensures.upper c.below_upper-to.ensures.places in
    between_both (λ z. comes_before z X.lower) (λ z. is_below z X.upper) A from to low high
