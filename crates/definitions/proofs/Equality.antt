-- The tests of equality of items, bounds and ranges.
use Rattle.std.proofs.Common.{◌≡◌, true, List, ℕ, Option, Some, None, refl, sym, ap, ◌∙◌, Equal}
use Rattle.std.specs.Ordering.{is_eq}
use Rattle.std.proofs.lemmas.Bool.{false≢true, and_parts, and_from}
use Rattle.std.proofs.lemmas.Map.Text.{is_eq-slice_cmp}
use Rattle.std.proofs.lemmas.Slice.Eq.{bytes_eq-Decides}
use Rattle.definitions.specs.Items.{Item, item_cmp, same_item, Range, same_upper, same_range}

pub same_item-eq : (x y : Item) → same_item x y ≡ true → x ≡ y
same_item-eq x y h = (bytes_eq-Decides x y).0 h

pub same_item-itself : (x : Item) → same_item x x ≡ true
same_item-itself x = (bytes_eq-Decides x x).1 refl

pub item_cmp-eq : (x y : Item) → item_cmp x y ≡ Equal → x ≡ y
item_cmp-eq x y h = same_item-eq x y (sym (is_eq-slice_cmp x y) ∙ ap is_eq h)

pub same_upper-eq : (x y : Option (List ℕ)) → same_upper x y ≡ true → x ≡ y
same_upper-eq None None h = refl
same_upper-eq None (Some y) h = absurd (false≢true h)
same_upper-eq (Some x) None h = absurd (false≢true h)
same_upper-eq (Some x) (Some y) h = ap Some (same_item-eq x y h)

pub same_upper-itself : (y : Option (List ℕ)) → same_upper y y ≡ true
same_upper-itself None = refl
same_upper-itself (Some y) = same_item-itself y

pub same_range-eq : (X Y : Range) → same_range X Y ≡ true → X ≡ Y
same_range-eq X Y h =
    let both = and_parts (same_item X.lower Y.lower) (same_upper X.upper Y.upper) h in
    let lower = same_item-eq X.lower Y.lower both.0 in
    let upper = same_upper-eq X.upper Y.upper both.1 in
    λ i. record { lower = lower i; upper = upper i }

pub same_range-itself : (X : Range) → same_range X X ≡ true
same_range-itself X = and_from (same_item X.lower X.lower) (same_upper X.upper X.upper) (same_item-itself X.lower)
    (same_upper-itself X.upper)
