-- The items of a range stand next to each other in a set.
use Rattle.std.proofs.Common.{◌≡◌, ℕ, zero, suc, Bool, true, false, cond, not, ◌&&◌, List, [], ◌∷◌, get_or, take, drop}
use Rattle.std.proofs.Common.{filter, Option, Some, None, refl, ap, arith, inl, inr}
use Rattle.std.specs.Ordering.{is_lt}
use Rattle.std.specs.declared.cmp.Ordering.{Ordering}
use Rattle.std.specs.declared.cmp.Ordering.TheVariants.{Less, Equal, Greater}
use Rattle.std.specs.List.Sorted.{IsPartitionPoint, IsPartitionedBy}
use Rattle.std.proofs.lemmas.Cmp.{nat_list_cmp_total}
use Rattle.std.proofs.lemmas.Map.Keys.{Less-from_sorted}
use Rattle.std.proofs.lemmas.Bool.{cases_order}
use Rattle.definitions.specs.Items.{Item, item_cmp, comes_before, is_below}
use Rattle.definitions.specs.Sets.{IsSet}

-- the first i elements pass, and no later one
abbrev pub PassFirst : {X : Type 0} → (X → Bool) → List X → ℕ → Type 0
PassFirst p xs i = IsPartitionPoint (λ y. p y ≡ true) (λ y. p y ≡ false) xs i

pub later : {X : Type 0} (p : X → Bool) (x : X) (xs : List X) (i : ℕ) → PassFirst p (x ∷ xs) (suc i) → PassFirst p xs i
later p x xs i parted = (
  (λ k d low high. parted.0 (suc k) d (omega arith) (omega arith)),
  (λ k d low high. parted.1 (suc k) d (omega arith) (omega arith)),
)

none_later : {X : Type 0} (p : X → Bool) (x : X) (xs : List X) → PassFirst p (x ∷ xs) zero → PassFirst p xs zero
none_later p x xs parted =
    ((λ k d low high. absurd (omega arith)), (λ k d low high. parted.1 (suc k) d (omega arith) (omega arith)))

pub filter_is_front : {X : Type 0} (p : X → Bool) (xs : List X) (i : ℕ) → PassFirst p xs i → filter p xs ≡ take i xs
filter_is_front p [] zero parted = refl
filter_is_front p [] (suc i) parted = refl
filter_is_front p (x ∷ xs) zero parted =
    rw (parted.1 zero x (omega arith) (omega arith)) (filter_is_front p xs zero (none_later p x xs parted))
filter_is_front p (x ∷ xs) (suc i) parted = rw (parted.0 zero x (omega arith) (omega arith))
    (ap (λ ys. x ∷ ys) (filter_is_front p xs i (later p x xs i parted)))

pub filter_is_back : {X : Type 0} (p : X → Bool) (xs : List X) (i : ℕ) → PassFirst p xs i →
    filter (λ y. not (p y)) xs ≡ drop i xs
filter_is_back p [] zero parted = refl
filter_is_back p [] (suc i) parted = refl
filter_is_back p (x ∷ xs) zero parted = rw (parted.1 zero x (omega arith) (omega arith))
    (ap (λ ys. x ∷ ys) (filter_is_back p xs zero (none_later p x xs parted)))
filter_is_back p (x ∷ xs) (suc i) parted =
    rw (parted.0 zero x (omega arith) (omega arith)) (filter_is_back p xs i (later p x xs i parted))

twice_step : {X : Type 0} (p q : X → Bool) (x : X) (xs : List X) (b : Bool) →
    p x ≡ b → filter q (filter p xs) ≡ filter (λ y. p y && q y) xs →
    filter q (filter p (x ∷ xs)) ≡ filter (λ y. p y && q y) (x ∷ xs)
twice_step p q x xs true e rest = rw e (ap (λ ys. cond (q x) (x ∷ ys) ys) rest)
twice_step p q x xs false e rest = rw e rest

pub filter_twice : {X : Type 0} (p q : X → Bool) (xs : List X) → filter q (filter p xs) ≡ filter (λ y. p y && q y) xs
filter_twice p q [] = refl
filter_twice p q (x ∷ xs) = twice_step p q x xs (p x) refl (filter_twice p q xs)

pub less_of : (o : Ordering) → is_lt o ≡ true → o ≡ Less
less_of Less e = refl
less_of Equal e = cc
less_of Greater e = cc

-- in a set the items before a bound come first
pub parted_below : (A : List Item) (x : List ℕ) → IsSet A → IsPartitionedBy (λ z. comes_before z x) A
parted_below A x rises i j d le lt e =
    elim (cases_order i j) [
      | inl same ↦ rw same e
      | inr (inl below) ↦ ap is_lt (nat_list_cmp_total.trans (get_or A i d) (get_or A j d) x
          (Less-from_sorted item_cmp A i j d rises below lt) (less_of _ e))
      | inr (inr other) ↦ absurd (omega arith)
    ]

pub parted_by_upper : (A : List Item) (y : Option (List ℕ)) → IsSet A → IsPartitionedBy (λ z. is_below z y) A
parted_by_upper A None rises i j d le lt e = refl
parted_by_upper A (Some y) rises i j d le lt e = parted_below A y rises i j d le lt e
