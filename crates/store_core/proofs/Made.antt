-- The set of a list's items, as sorting the list and dropping repeats makes it.
use Rattle.std.proofs.Common.{◌≡◌, Bool, true, false, ◌||◌, List, [], ◌∷◌, Contains, IsTrue, refl, sym, ap, ◌∙◌}
use Rattle.std.specs.List.{list_any, dedup}
use Rattle.std.specs.List.Sorted.{IsStrictlySortedBy, IsSorted, IsPermutation}
use Rattle.std.specs.Ordering.{match_ordering}
use Rattle.std.specs.BTreeMap.{is_at}
use Rattle.std.specs.declared.cmp.Ordering.{Ordering}
use Rattle.std.specs.declared.cmp.Ordering.TheVariants.{Less, Equal, Greater}
use Rattle.std.proofs.lemmas.Cmp.{nat_list_cmp_total, nat_list_eq_equiv}
use Rattle.std.proofs.lemmas.Slice.Eq.{bytes_eq-Decides}
use Rattle.std.proofs.lemmas.Map.Text.{is_eq-slice_cmp}
use Rattle.std.proofs.lemmas.Map.Lookups.{btree_set_from_contains, exact_bytes}
use Rattle.std.proofs.lemmas.Bool.Decides.{same_from_decides}
use Rattle.std.proofs.lemmas.Map.Views.{list_any-from_Contains, Contains-from_any}
use Rattle.std.proofs.lemmas.List.Kept.{IsStrictlySortedBy-dedup, Contains-dedup, Contains-from_dedup}
use Rattle.std.proofs.lemmas.List.Sorted.{Contains-permutation, IsPermutation-sym}
use Rattle.definitions.specs.Items.{Item, item_cmp, same_item}
use Rattle.definitions.specs.Sets.{IsSet, has, add_item, union, set_of}
use Rattle.definitions.proofs.Additions.{set_add}

is_equal : (x y : Item) → same_item x y ≡ true → x ≡ y
is_equal x y = (bytes_eq-Decides x y).0

-- ---- what a set with more items has

or_false : (a : Bool) → a || false ≡ a
or_false true = refl
or_false false = refl

or_again : (a b : Bool) → a || (a || b) ≡ a || b
or_again true b = refl
or_again false b = refl

or_swap : (a b c : Bool) → a || (b || c) ≡ b || (a || c)
or_swap true true c = refl
or_swap true false c = refl
or_swap false true c = refl
or_swap false false c = refl

or_later : (a b c : Bool) → (a || b) || c ≡ b || (a || c)
or_later true true c = refl
or_later true false c = refl
or_later false true c = refl
or_later false false c = refl

has_put : (x y q : Item) (ys : List Item) (o : Ordering) → item_cmp x y ≡ o →
    has (add_item ys x) q ≡ same_item q x || has ys q →
    has (match_ordering o (x ∷ y ∷ ys) (y ∷ ys) (y ∷ add_item ys x)) q ≡ same_item q x || has (y ∷ ys) q
has_put x y q ys Less e rest = refl
has_put x y q ys Equal e rest =
    let same : x ≡ y = exact_bytes x y e in
    rw same (sym (or_again (same_item q y) (has ys q)))
has_put x y q ys Greater e rest = ap (λ b. same_item q y || b) rest ∙ or_swap (same_item q y) (same_item q x) (has ys q)

pub has_add : (A : List Item) (x q : Item) → has (add_item A x) q ≡ same_item q x || has A q
has_add [] x q = refl
has_add (y ∷ ys) x q = has_put x y q ys (item_cmp x y) refl (has_add ys x q)

has_union : (A xs : List Item) (q : Item) → has (union A xs) q ≡ has A q || has xs q
has_union A [] q = sym (or_false (has A q))
has_union A (x ∷ xs) q = has_union (add_item A x) xs q ∙ ap (λ b. b || has xs q) (has_add A x q)
    ∙ or_later (same_item q x) (has A q) (has xs q)

set_union : (A xs : List Item) → IsSet A → IsSet (union A xs)
set_union A [] set = set
set_union A (x ∷ xs) set = set_union (add_item A x) xs (set_add A x set)

none_is_set : IsSet []
unfolding IsStrictlySortedBy
none_is_set = tt

-- ---- two sets with the same items are equal

has_by_order : (A : List Item) (q : Item) → list_any (is_at (item_cmp q)) A ≡ has A q
has_by_order [] q = refl
has_by_order (y ∷ ys) q = rw (is_eq-slice_cmp q y, has_by_order ys q) refl

pub same_set : (A B : List Item) → IsSet A → IsSet B → ((q : Item) → has A q ≡ has B q) → A ≡ B
same_set A B a b same =
    btree_set_from_contains nat_list_cmp_total (record { keys = A }) (record { keys = B }) a b
    (λ q. has_by_order A q ∙ same q ∙ sym (has_by_order B q)) exact_bytes

again : (A : List Item) (x y : Item) (b : Bool) → b ≡ same_item y x → has A x ≡ true → b || has A y ≡ has A y
again A x y true same there = let equal : y ≡ x = is_equal y x (sym same) in rw equal (sym there)
again A x y false same there = refl

pub add_again : (A : List Item) (x : Item) → IsSet A → IsTrue (has A x) → add_item A x ≡ A
add_again A x set there =
    same_set (add_item A x) A (set_add A x set) set (λ y. has_add A x y ∙ again A x y (same_item y x) refl there)

-- ---- sorting and dropping repeats

contains : (A : List Item) (q : Item) → has A q ≡ true → Contains A q
contains A q = Contains-from_any is_equal q A

has_contained : (A : List Item) (q : Item) → Contains A q → has A q ≡ true
has_contained A q = list_any-from_Contains nat_list_eq_equiv q A

has_kept : (xs ys : List Item) (q : Item) → IsPermutation xs ys → has (dedup same_item ys) q ≡ has xs q
has_kept xs ys q moved =
    same_from_decides {P = Contains xs q} _ _ (
      (λ e. Contains-permutation ys xs q (IsPermutation-sym xs ys moved)
          (Contains-from_dedup same_item ys q (contains (dedup same_item ys) q e))),
      (λ at. has_contained (dedup same_item ys) q
          (Contains-dedup nat_list_eq_equiv is_equal ys q (Contains-permutation xs ys q moved at))),
    )
    (contains xs q, has_contained xs q)

pub set_of_is_set : (xs : List Item) → IsSet (set_of xs)
set_of_is_set xs = set_union [] xs none_is_set

pub has_set_of : (xs : List Item) (x : Item) → has (set_of xs) x ≡ has xs x
has_set_of xs x = has_union [] xs x

pub sorted_is_set_of : (xs ys : List Item) → IsPermutation xs ys → IsSorted item_cmp ys → dedup same_item ys ≡ set_of xs
sorted_is_set_of xs ys moved sorted =
    same_set (dedup same_item ys) (set_of xs)
    (IsStrictlySortedBy-dedup nat_list_cmp_total (λ x y. sym (is_eq-slice_cmp x y)) ys sorted)
    (set_of_is_set xs)
    (λ q. has_kept xs ys q moved ∙ sym (has_set_of xs q))
