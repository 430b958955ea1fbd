use Rattle.std.proofs.Common.{◌≡◌, ◌≤◌, ◌∙◌, ℕ, Bool, Some, ap, sym, length, true, false, rules, arith}
use Rattle.std.specs.List.{slice_get}
use Rattle.definitions.specs.Items.{Item, same_item, comes_before}
use Rattle.definitions.specs.Sets.{has}
use Rattle.definitions.proofs.Additions.{has_at, put_at, is_item}
use Rattle.range_tree.specs.Nodes.{PassFirst}
use Rattle.range_tree.specs.declared.tree.Tree.{Tree}
use Rattle.range_tree.specs.Trees.{tree_items}
use Rattle.range_tree.proofs.Places.{get_past}
use Rattle.range_tree.proofs.tree.Tree.gap_for.Goals as goal

-- whether x is there, by the item that stands at its place
has_where : (t : Tree) (x y : Item) (i : ℕ) (same : Bool) → PassFirst (λ z. comes_before z x) (tree_items t) i →
    slice_get (tree_items t) i ≡ Some y → same_item x y ≡ same → same ≡ has (tree_items t) x
has_where t x y i same parted read is =
    sym (has_at (tree_items t) x i t.rises parted ∙ ap (λ o. is_item o x) read ∙ is)

pub returns-then-place-len-clause-found : goal.returns-then-place-len-clause-found
returns-then-place-len-clause-found c =
    let A = tree_items c.args.self.now in
    let x = c.args.item.now in
    let i = c.rank-place.result.0 in
    let past : length A ≤ i = let all = c.len.ensures in omega arith in
    sym (has_at A x i c.args.self.now.rises c.rank-place.ensures.places ∙ ap (λ o. is_item o x) (get_past A i past))

pub returns-then-place-len-clause-gap : goal.returns-then-place-len-clause-gap
returns-then-place-len-clause-gap c = put_at (tree_items c.args.self.now) c.args.item.now c.rank-place.result.0
    c.rank-place.ensures.places (sym (returns-then-place-len-clause-found c))

pub returns-then-eq-clause-found : goal.returns-then-eq-clause-found
returns-then-eq-clause-found c =
    has_where c.args.self.now c.args.item.now c.item_at.result c.rank-place.result.0 true c.rank-place.ensures.places
    c.item_at.ensures (search rules)

pub returns-clause-found : goal.returns-clause-found
returns-clause-found c =
    has_where c.args.self.now c.args.item.now c.item_at.result c.rank-place.result.0 false c.rank-place.ensures.places
    c.item_at.ensures (search rules)

pub returns-clause-gap : goal.returns-clause-gap
returns-clause-gap c = put_at (tree_items c.args.self.now) c.args.item.now c.rank-place.result.0
    c.rank-place.ensures.places (sym (returns-clause-found c))
