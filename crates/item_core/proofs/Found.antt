-- What a binary search finds in a set.
use Rattle.std.proofs.Common.{◌≡◌, ℕ, zero, suc, ◌+◌, ◌<◌, Bool, true, false, ◌||◌, List, [], ◌∷◌, length, get_or}
use Rattle.std.proofs.Common.{Result, Ok, Err, inl, inr, refl, sym, ap, ◌∙◌, arith}
use Rattle.std.specs.Prelude.{is_ok}
use Rattle.std.specs.Ordering.{is_lt, is_eq, ordering_index}
use Rattle.std.specs.declared.cmp.Ordering.TheVariants.{Less, Greater}
use Rattle.std.specs.List.Sorted.{IsSearchInRange, IsBinarySearchResult, IsNonDecreasingBy}
use Rattle.std.proofs.lemmas.Bool.{cases_order}
use Rattle.std.proofs.lemmas.Cmp.{nat_list_cmp_total}
use Rattle.std.proofs.lemmas.List.Sorted.{searchable_from_sorted}
use Rattle.std.proofs.lemmas.Map.Keys.{Less-from_sorted}
use Rattle.std.proofs.lemmas.Map.Text.{is_eq-slice_cmp}
use Rattle.definitions.specs.Items.{Item, item_cmp, same_item}
use Rattle.definitions.specs.Sets.{IsSet, has}
use Rattle.definitions.proofs.Equality.{item_cmp-eq, same_item-itself}
use Rattle.definitions.proofs.Order.{before-asym}

comparisons_rise : (A : List Item) (x : Item) → IsSet A → IsNonDecreasingBy (λ y. ordering_index (item_cmp y x)) A
comparisons_rise A x set = searchable_from_sorted nat_list_cmp_total (λ y. y) A x (λ k d low high.
    before-asym (get_or A k d) (get_or A (k + 1) d)
    (ap is_lt (Less-from_sorted item_cmp A k (k + 1) d set (omega arith) high)))

later_too : (a b : Bool) → b ≡ true → (a || b) ≡ true
later_too true b e = refl
later_too false b e = e

has_there : (A : List Item) (x : Item) (i : ℕ) → i < length A → get_or A i x ≡ x → has A x ≡ true
has_there [] x i low e = absurd (omega arith)
has_there (y ∷ ys) x zero low e = rw (e, same_item-itself x) refl
has_there (y ∷ ys) x (suc i) low e = later_too (same_item x y) (has ys x) (has_there ys x i (omega arith) e)

lacks : (A : List Item) (x : Item) → ((k : ℕ) → k < length A → same_item x (get_or A k x) ≡ false) → has A x ≡ false
lacks [] x none = refl
lacks (y ∷ ys) x none = rw (none zero (omega arith)) (lacks ys x (λ k low. none (suc k) (omega arith)))

differs_below : (x y : Item) → item_cmp y x ≡ Less → same_item x y ≡ false
differs_below x y e =
    let above : item_cmp x y ≡ Greater = rw (nat_list_cmp_total.antisymm x y, e) refl in
    sym (is_eq-slice_cmp x y) ∙ ap is_eq above

differs_above : (x y : Item) → item_cmp y x ≡ Greater → same_item x y ≡ false
differs_above x y e =
    let below : item_cmp x y ≡ Less = rw (nat_list_cmp_total.antisymm x y, e) refl in
    sym (is_eq-slice_cmp x y) ∙ ap is_eq below

pub found_is : (A : List Item) (x : Item) (r : Result ℕ ℕ) → IsSet A → IsSearchInRange r (length A) →
    IsBinarySearchResult (λ y. item_cmp y x) A r → is_ok r ≡ has A x
found_is A x (Ok i) set low at = sym (has_there A x i low (item_cmp-eq (get_or A i x) x (at x)))
found_is A x (Err i) set low parts =
    let parted = parts (comparisons_rise A x set) in
    sym (lacks A x (λ k within. elim (cases_order k i) [
      | inl same ↦ differs_above x (get_or A k x) (parted.1 k x (omega arith) within)
      | inr (inl below) ↦ differs_below x (get_or A k x) (parted.0 k x (omega arith) below)
      | inr (inr above) ↦ differs_above x (get_or A k x) (parted.1 k x (omega arith) within)
    ]))
