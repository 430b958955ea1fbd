-- Sums over the slots of a slab where one key changes.
--
-- Two lists of slots that agree at each place, where a place past the end has nothing, have the same sum: by induction
-- over both, the rest of an ended list has nothing at each place. Where they agree at each place but one, go to that
-- place: what is in front of it is the same, and so is what is after it, so the sums differ by what is there. A sum is
-- no less than each of its slots, none of its slots is above a bound of all, and where no slot has a value it is 0.
use Rattle.std.proofs.Common.{◌≡◌, ◌≢◌, ℕ, zero, suc, ◌+◌, ◌*◌, ◌≤◌, List, [], ◌∷◌, length, get_or}
use Rattle.std.proofs.Common.{Option, Some, None}
use Rattle.std.proofs.Common.{refl, ap, arith}
use Rattle.hub_core.specs.Totals.{in_slot, total}

module _ {T : Type 0} (f : T → ℕ) where
  pub total-same : (xs ys : List (Option T)) → ((k : ℕ) → get_or ys k None ≡ get_or xs k None) →
      total f ys ≡ total f xs
  total-same [] [] same = refl
  total-same [] (y ∷ ys) same =
      let first : in_slot f y ≡ 0 = ap (in_slot f) (same 0) in
      omega (arith, first, total-same [] ys (λ k. same (suc k)))
  total-same (x ∷ xs) [] same =
      let first : 0 ≡ in_slot f x = ap (in_slot f) (same 0) in
      omega (arith, first, total-same xs [] (λ k. same (suc k)))
  total-same (x ∷ xs) (y ∷ ys) same =
      let first : in_slot f y ≡ in_slot f x = ap (in_slot f) (same 0) in
      omega (arith, first, total-same xs ys (λ k. same (suc k)))

  pub total-one : (xs ys : List (Option T)) (key : ℕ) →
      ((k : ℕ) → k ≢ key → get_or ys k None ≡ get_or xs k None) →
      total f ys + in_slot f (get_or xs key None) ≡ total f xs + in_slot f (get_or ys key None)
  total-one [] [] key same = refl
  total-one [] (y ∷ ys) zero same =
      let rest : total f ys ≡ 0 = total-same [] ys (λ k. same (suc k) (λ e. omega (arith, e))) in
      omega (arith, rest)
  total-one [] (y ∷ ys) (suc key) same =
      let first : in_slot f y ≡ 0 = ap (in_slot f) (same 0 (λ e. omega (arith, e))) in
      let rest = total-one [] ys key (λ k differs. same (suc k) (λ e. differs (omega (arith, e)))) in
      omega (arith, first, rest)
  total-one (x ∷ xs) [] zero same =
      let rest : 0 ≡ total f xs = total-same xs [] (λ k. same (suc k) (λ e. omega (arith, e))) in
      omega (arith, rest)
  total-one (x ∷ xs) [] (suc key) same =
      let first : 0 ≡ in_slot f x = ap (in_slot f) (same 0 (λ e. omega (arith, e))) in
      let rest = total-one xs [] key (λ k differs. same (suc k) (λ e. differs (omega (arith, e)))) in
      omega (arith, first, rest)
  total-one (x ∷ xs) (y ∷ ys) zero same =
      let rest : total f ys ≡ total f xs = total-same xs ys (λ k. same (suc k) (λ e. omega (arith, e))) in
      omega (arith, rest)
  total-one (x ∷ xs) (y ∷ ys) (suc key) same =
      let first : in_slot f y ≡ in_slot f x = ap (in_slot f) (same 0 (λ e. omega (arith, e))) in
      let rest = total-one xs ys key (λ k differs. same (suc k) (λ e. differs (omega (arith, e)))) in
      omega (arith, first, rest)

  pub total-has : (xs : List (Option T)) (key : ℕ) → in_slot f (get_or xs key None) ≤ total f xs
  total-has [] key = omega arith
  total-has (x ∷ xs) zero = omega arith
  total-has (x ∷ xs) (suc key) = omega (arith, total-has xs key)

  pub total-none : (xs : List (Option T)) → ((k : ℕ) → get_or xs k None ≡ None) → total f xs ≡ 0
  total-none xs none = total-same [] xs none

  -- no slot counts for more than `most`
  pub total-below : (xs : List (Option T)) (most n : ℕ) → ((x : T) → f x ≤ most) → length xs ≤ n → total f xs ≤ n * most
  total-below [] most n below fits = omega arith
  total-below (x ∷ xs) most zero below fits = absurd (omega (arith, fits))
  total-below (x ∷ xs) most (suc n) below fits =
      let first : in_slot f x ≤ most = slot x in
      omega (arith, first, total-below xs most n below (omega (arith, fits)))
    where
      slot : (o : Option T) → in_slot f o ≤ most
      slot None = omega arith
      slot (Some y) = below y
