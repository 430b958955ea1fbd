-- The sum over a set with more items is the sum of both.
use Rattle.std.proofs.Common.{◌≡◌, ℕ, ◌+◌, Bool, true, false, ◌||◌, List, [], ◌∷◌, refl, sym, ap, ◌∙◌, arith, rules}
use Rattle.std.specs.Prelude.{sum_by, IsFalse}
use Rattle.std.specs.List.{AllByRecursion, IsDistinct}
use Rattle.std.specs.Ordering.{match_ordering, is_eq, eq_by_cmp}
use Rattle.std.specs.declared.cmp.Ordering.{Ordering}
use Rattle.std.specs.declared.cmp.Ordering.TheVariants.{Less, Equal, Greater}
use Rattle.std.proofs.lemmas.List.Sums.{sum_by-cons}
use Rattle.std.proofs.lemmas.Map.Keys.{IsDistinct-from_sorted}
use Rattle.std.proofs.lemmas.Map.Text.{is_eq-slice_cmp}
use Rattle.std.proofs.lemmas.Slice.Eq.{bytes_eq-Decides}
use Rattle.definitions.specs.Items.{Item, item_cmp, same_item}
use Rattle.definitions.specs.Sets.{IsSet, has, add_item, union}
use Rattle.definitions.specs.Fingerprints.{join_lanes, two_lanes}
use Rattle.digest_core.specs.Laws.{joined_from_sums}

or_parts : (a b : Bool) → (a || b) ≡ false → (a ≡ false) × (b ≡ false)
or_parts true b h = absurd (cc)
or_parts false b h = (refl, h)

sum_put : (f : Item → ℕ) (x y : Item) (ys : List Item) (o : Ordering) → o ≡ item_cmp x y → same_item x y ≡ false →
    sum_by f (add_item ys x) ≡ f x + sum_by f ys →
    sum_by f (match_ordering o (x ∷ y ∷ ys) (y ∷ ys) (y ∷ add_item ys x)) ≡ f x + sum_by f (y ∷ ys)
sum_put f x y ys Less is differ rest = sum_by-cons f x (y ∷ ys)
sum_put f x y ys Equal is differ rest = let same : is_eq (item_cmp x y) ≡ same_item x y = is_eq-slice_cmp x y in
    let other : is_eq (item_cmp x y) ≡ true = ap is_eq (sym is) in absurd (cc)
sum_put f x y ys Greater is differ rest = omega (arith, rest, sum_by-cons f y (add_item ys x), sum_by-cons f y ys)

sum_add_item : (f : Item → ℕ) (A : List Item) (x : Item) → has A x ≡ false → sum_by f (add_item A x) ≡ f x + sum_by f A
sum_add_item f [] x lacks = sum_by-cons f x []
sum_add_item f (y ∷ ys) x lacks =
    let parts = or_parts (same_item x y) (has ys x) lacks in
    sum_put f x y ys (item_cmp x y) refl parts.0 (sum_add_item f ys x parts.1)

differ_flip : (x y : Item) (b : Bool) → b ≡ same_item y x → same_item x y ≡ false → b ≡ false
differ_flip x y true is differ =
    let same : same_item x y ≡ true = (bytes_eq-Decides x y).1 (sym ((bytes_eq-Decides y x).0 (sym is))) in absurd (cc)
differ_flip x y false is differ = refl

lacks_put : (x y z : Item) (zs : List Item) (o : Ordering) → same_item y x ≡ false → has (z ∷ zs) y ≡ false →
    has (add_item zs x) y ≡ false →
    has (match_ordering o (x ∷ z ∷ zs) (z ∷ zs) (z ∷ add_item zs x)) y ≡ false
lacks_put x y z zs Less differ lacks rest = rw differ lacks
lacks_put x y z zs Equal differ lacks rest = lacks
lacks_put x y z zs Greater differ lacks rest = rw ((or_parts (same_item y z) (has zs y) lacks).0) rest

lacks_add_item : (A : List Item) (x y : Item) → same_item y x ≡ false → has A y ≡ false → has (add_item A x) y ≡ false
lacks_add_item [] x y differ lacks = rw differ refl
lacks_add_item (z ∷ zs) x y differ lacks =
    lacks_put x y z zs (item_cmp x z) differ lacks
    (lacks_add_item zs x y differ (or_parts (same_item y z) (has zs y) lacks).1)

lack_add_item : (A : List Item) (x : Item) (B : List Item) → AllByRecursion (λ y. eq_by_cmp item_cmp x y ≡ false) B →
    AllByRecursion (λ y. IsFalse (has A y)) B → AllByRecursion (λ y. IsFalse (has (add_item A x) y)) B
lack_add_item A x [] differ lack = tt
lack_add_item A x (y ∷ ys) differ lack = (
  lacks_add_item A x y (differ_flip x y (same_item y x) refl (sym (is_eq-slice_cmp x y) ∙ differ.0)) lack.0,
  lack_add_item A x ys differ.1 lack.1,
)

sum_union : (f : Item → ℕ) (A B : List Item) → IsDistinct (eq_by_cmp item_cmp) B →
    AllByRecursion (λ x. IsFalse (has A x)) B →
    sum_by f (union A B) ≡ sum_by f A + sum_by f B
unfolding IsDistinct
sum_union f A [] distinct lack = search rules
sum_union f A (x ∷ xs) distinct lack =
    omega (
      arith,
      sum_union f (add_item A x) xs distinct.1 (lack_add_item A x xs distinct.0 lack.1),
      sum_add_item f A x lack.0,
      sum_by-cons f x xs,
    )

pub new_item : (A : List Item) (x : Item) → IsFalse (has A x) →
    two_lanes.of (add_item A x) ≡ join_lanes (two_lanes.of (x ∷ [])) (two_lanes.of A)
new_item A x lacks =
    joined_from_sums (x ∷ []) A (add_item A x) (λ f. omega (arith, sum_add_item f A x lacks, sum_by-cons f x []))

pub disjoint : (A B : List Item) → IsSet B → AllByRecursion (λ x. IsFalse (has A x)) B →
    two_lanes.of (union A B) ≡ join_lanes (two_lanes.of A) (two_lanes.of B)
disjoint A B set lack =
    joined_from_sums A B (union A B) (λ f. sum_union f A B (IsDistinct-from_sorted item_cmp B set) lack)
