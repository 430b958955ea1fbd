-- A part has no more items than the whole.
use Rattle.std.proofs.Common.{◌≡◌, ◌≤◌, ap, arith, length, List, not, refl}
use Rattle.std.specs.Prelude.{IfOk, Result, Ok, Err}
use Rattle.std.proofs.lemmas.List.Filters.{length-filter_both}
use Rattle.definitions.specs.Items.{Item, Range, contains}
use Rattle.definitions.specs.Sets.{items_in}
use Rattle.range_tree.specs.Trees.{tree_items}
use Rattle.range_tree.specs.declared.tree.Tree.{Tree}
use Rattle.range_tree.proofs.tree.Tree.part.Goals as goal

short : (X : Range) (A : List Item) → length (items_in A X) ≤ length A
short X A = omega (arith, length-filter_both (contains X) (λ x. not (contains X x)) (λ x. refl) A)

few_of : {E : Type 0} (A : List Item) (X : Range) (r : Result Tree E)
    → IfOk r (λ t. tree_items t ≡ items_in A X) → IfOk r (λ t. length (tree_items t) ≤ length A)
few_of A X (Ok t) same = omega (arith, ap length same, short X A)
few_of A X (Err e) same = tt

pub returns-clause-few : goal.returns-clause-few
returns-clause-few c =
    few_of (tree_items c.args.self.now) c.args.range.now c.within.result c.within.ensures.items
