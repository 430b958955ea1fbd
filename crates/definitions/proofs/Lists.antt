-- What holds of each element of a list, and tests of lists.
use Rattle.std.proofs.Common.{◌≡◌, ℕ, zero, suc, ◌+◌, ◌<◌, ◌≤◌, Bool, true, false, Option, Some, None, List, [], ◌∷◌}
use Rattle.std.proofs.Common.{◌++◌, length, refl, sym, subst, ◌∙◌, cond, get_or, arith, inl, inr}
use Rattle.std.specs.Prelude.{filter, find, option_map}
use Rattle.std.specs.Option.{option_or}
use Rattle.std.specs.List.{AllByRecursion, list_any, list_all, range_with_len}
use Rattle.std.proofs.lemmas.Bool.{cases_order, cond-false, and_from, and_parts, or_parts, or_from}

pub All-filter : {X : Type 0} (p : X → Bool) (xs : List X) → AllByRecursion (λ x. p x ≡ true) (filter p xs)
All-filter p [] = tt
All-filter {X} p (x ∷ xs) =
    let either : (b : Bool) → p x ≡ b → AllByRecursion (λ z. p z ≡ true) (cond b (x ∷ filter p xs) (filter p xs)) =
    elim [ true ↦ λ e. (e, All-filter p xs) | false ↦ λ e. All-filter p xs ] in
    either (p x) refl

pub All-map : {X : Type 0} (P Q : X → Type 0) → ((x : X) → P x → Q x) → (xs : List X) → AllByRecursion P xs →
    AllByRecursion Q xs
All-map P Q h [] a = tt
All-map P Q h (x ∷ xs) a = (h x a.0, All-map P Q h xs a.1)

pub All-both : {X : Type 0} (P Q R : X → Type 0) → ((x : X) → P x → Q x → R x) → (xs : List X) → AllByRecursion P xs →
    AllByRecursion Q xs → AllByRecursion R xs
All-both P Q R h [] a b = tt
All-both P Q R h (x ∷ xs) a b = (h x a.0 b.0, All-both P Q R h xs a.1 b.1)

pub All-at : {X : Type 0} (P : X → Type 0) (xs : List X) (i : ℕ) (d : X) → i < length xs → AllByRecursion P xs →
    P (get_or xs i d)
All-at P [] i d h a = absurd (omega arith)
All-at P (x ∷ xs) zero d h a = a.0
All-at P (x ∷ xs) (suc i) d h a = All-at P xs i d (omega arith) a.1

pub All-append : {X : Type 0} (P : X → Type 0) (xs ys : List X) → AllByRecursion P xs → AllByRecursion P ys →
    AllByRecursion P (xs ++ ys)
All-append P [] ys h k = k
All-append P (x ∷ xs) ys h k = (h.0, All-append P xs ys h.1 k)

pub All-every : {X : Type 0} (P : X → Type 0) → ((x : X) → P x) → (xs : List X) → AllByRecursion P xs
All-every P every [] = tt
All-every P every (x ∷ xs) = (every x, All-every P every xs)

-- ---- what is not found

pub none_found : {X : Type 0} (p : X → Bool) (xs : List X) → find p xs ≡ None → AllByRecursion (λ x. p x ≡ false) xs
none_found p [] e = tt
none_found {X} p (x ∷ xs) e =
    let either : (b : Bool) → p x ≡ b → cond b (Some x) (find p xs) ≡ None →
    AllByRecursion (λ z. p z ≡ false) (x ∷ xs) =
    elim [ true ↦ λ h k. absurd (cc) | false ↦ λ h k. (h, none_found p xs k) ] in
    either (p x) refl e

pub find-none : {X : Type 0} (p : X → Bool) (xs : List X) → AllByRecursion (λ x. p x ≡ false) xs → find p xs ≡ None
find-none p [] h = refl
find-none p (x ∷ xs) h = cond-false (p x) (Some x) (find p xs) h.0 ∙ find-none p xs h.1

pub list_any-none : {X : Type 0} (p : X → Bool) (xs : List X) → AllByRecursion (λ x. p x ≡ false) xs →
    list_any p xs ≡ false
list_any-none p [] h = refl
list_any-none p (x ∷ xs) h = or_from (p x) (list_any p xs) h.0 (list_any-none p xs h.1)

pub none_passes : {X : Type 0} (p : X → Bool) (xs : List X) → list_any p xs ≡ false →
    AllByRecursion (λ x. p x ≡ false) xs
none_passes p [] e = tt
none_passes p (x ∷ xs) e = let both = or_parts (p x) (list_any p xs) e in (both.0, none_passes p xs both.1)

pub list_all-from_All : {X : Type 0} (p : X → Bool) (xs : List X) → AllByRecursion (λ x. p x ≡ true) xs →
    list_all p xs ≡ true
list_all-from_All p [] h = refl
list_all-from_All p (x ∷ xs) h = and_from (p x) (list_all p xs) h.0 (list_all-from_All p xs h.1)

pub All-from_list_all : {X : Type 0} (p : X → Bool) (xs : List X) → list_all p xs ≡ true →
    AllByRecursion (λ x. p x ≡ true) xs
All-from_list_all p [] e = tt
All-from_list_all p (x ∷ xs) e = let both = and_parts (p x) (list_all p xs) e in (both.0, All-from_list_all p xs both.1)

-- ---- numbers in a row

pub All-range : (P : ℕ → Type 0) (a n : ℕ) → ((k : ℕ) → a ≤ k → k < a + n → P k) → AllByRecursion P (range_with_len a n)
All-range P a zero h = tt
All-range P a (suc n) h =
    (h a (omega arith) (omega arith), All-range P (a + 1) n (λ k l m. h k (omega arith) (omega arith)))

pub range-at : (P : ℕ → Type 0) (a n : ℕ) → AllByRecursion P (range_with_len a n) → (k : ℕ) → a ≤ k → k < a + n → P k
range-at P a zero h k l m = absurd (omega arith)
range-at P a (suc n) h k l m = elim (cases_order k a) [
  | inl e ↦ subst P (sym e) h.0
  | inr other ↦ elim other [
    | inl below ↦ absurd (omega arith)
    | inr above ↦ range-at P (a + 1) n h.1 k (omega arith) (omega arith)
  ]
]

-- ---- one reason or another

pub or_none : {X Y : Type 0} (f : X → Y) (o : Option X) (p : Option Y) → option_or (option_map f o) p ≡ None →
    (o ≡ None) × (p ≡ None)
or_none f None p e = (refl, e)
or_none f (Some x) p e = absurd (cc)

pub none_or : {X Y : Type 0} (f : X → Y) (o : Option X) (p : Option Y) → o ≡ None → p ≡ None →
    option_or (option_map f o) p ≡ None
none_or f None p d e = e
none_or f (Some x) p d e = absurd (cc)

pub map_none : {X Y : Type 0} (f : X → Y) (o : Option X) → option_map f o ≡ None → o ≡ None
map_none f None e = refl
map_none f (Some x) e = absurd (cc)

pub none_map : {X Y : Type 0} (f : X → Y) (o : Option X) → o ≡ None → option_map f o ≡ None
none_map f None e = refl
none_map f (Some x) e = absurd (cc)
