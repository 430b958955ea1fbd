-- A walk over a slab that finds the key with the greatest number.
--
-- At each moment a value is among those that are left, or its number is no greater than the best so far, and the best
-- is the number of the value at its key. A step takes one off those that are left. When none is left, no number is
-- greater than the best; and where there is no best, there is no value.
use Rattle.std.proofs.Common.{◌≡◌, ◌⊎◌, ◌≤◌, ℕ, Bool, true, false, List, [], ◌∷◌, Option, Some, None}
use Rattle.std.proofs.Common.{Contains}
use Rattle.std.proofs.Common.{inl, inr, refl, sym, ap, subst, arith}
use Rattle.std.specs.Prelude.{nat_le, ⊤, if◌then◌else◌}
use Rattle.std.proofs.lemmas.Bool.{leb-true, leb-false}
use Rattle.slab.specs.Slab.{Slab, get, entries}
use Rattle.slab.proofs.SlabLemmas.{Contains-cons, Contains-cons_cases, Contains-entries}
use Rattle.hub_core.specs.Totals.{IsMost, better_of}

abbrev pub IsBelow : Option (ℕ × ℕ) → ℕ → Type 0
IsBelow None n = ⊥
IsBelow (Some b) n = n ≤ b.1

module _ {T : Type 0} (f : T → ℕ) where
  abbrev pub IsFound : Slab T → Option (ℕ × ℕ) → Type 0
  IsFound slab None = ⊤
  IsFound slab (Some b) = (x : T) × (get slab b.0 ≡ Some x) × (b.1 ≡ f x)

  pub record Walks (slab : Slab T) (rest : List (ℕ × T)) (best : Option (ℕ × ℕ)) : Type 0 where
    pub seen : (key : ℕ) (x : T) → get slab key ≡ Some x → Contains rest (key, x) ⊎ IsBelow best (f x)
    pub found : IsFound slab best
    pub listed : (key : ℕ) (x : T) → Contains rest (key, x) → get slab key ≡ Some x

  pub walks-start : (slab : Slab T) (rest : List (ℕ × T)) → rest ≡ entries slab → Walks slab rest None
  walks-start slab rest is = record {
    seen = λ key x there. inl (subst (λ (l : List (ℕ × T)). Contains l (key, x)) (sym is)
        ((Contains-entries slab key x).1 there));
    found = tt;
    listed = λ key x there. (Contains-entries slab key x).0
        (subst (λ (l : List (ℕ × T)). Contains l (key, x)) is there);
  }

  below-own : (best : Option (ℕ × ℕ)) (key n : ℕ) → IsBelow (better_of best key n) n
  below-own None key n = omega arith
  below-own (Some b) key n = by (nat_le n b.1) refl
    where
      by : (t : Bool) → nat_le n b.1 ≡ t → IsBelow (if t then Some b else Some (key, n)) n
      by true le = omega (arith, leb-true n b.1 le)
      by false gt = omega arith

  below-more : (best : Option (ℕ × ℕ)) (key n m : ℕ) → IsBelow best m → IsBelow (better_of best key n) m
  below-more None key n m below = absurd below
  below-more (Some b) key n m below = by (nat_le n b.1) refl
    where
      by : (t : Bool) → nat_le n b.1 ≡ t → IsBelow (if t then Some b else Some (key, n)) m
      by true le = below
      by false gt = omega (arith, leb-false n b.1 gt, below)

  found-more : (slab : Slab T) (best : Option (ℕ × ℕ)) (key : ℕ) (x : T) → IsFound slab best → get slab key ≡ Some x →
      IsFound slab (better_of best key (f x))
  found-more slab None key x found there = (x, there, refl)
  found-more slab (Some b) key x found there = by (nat_le (f x) b.1)
    where
      by : (t : Bool) → IsFound slab (if t then Some b else Some (key, f x))
      by true = found
      by false = (x, there, refl)

  pub walks-step : (slab : Slab T) (all rest : List (ℕ × T)) (best : Option (ℕ × ℕ)) (key : ℕ) (x : T) →
      all ≡ (key, x) ∷ rest → Walks slab all best → Walks slab rest (better_of best key (f x))
  walks-step slab all rest best key x is w =
      let here : Contains all (key, x) =
      subst (λ (l : List (ℕ × T)). Contains l (key, x)) (sym is) (0, omega arith, refl) in
      record {
        seen = λ k y there. elim (w.seen k y there) [
          | inl left ↦ elim (Contains-cons_cases (key, x) (k, y) rest
              (subst (λ (l : List (ℕ × T)). Contains l (k, y)) is left)) [
                | inl same ↦ inr (subst (λ (z : T). IsBelow (better_of best key (f x)) (f z))
                    (ap (λ (p : ℕ × T). p.1) same) (below-own best key (f x)))
                | inr later ↦ inl later
              ]
          | inr below ↦ inr (below-more best key (f x) (f y) below)
        ];
        found = found-more slab best key x w.found (w.listed key x here);
        listed = λ k y later. w.listed k y (subst (λ (l : List (ℕ × T)). Contains l (k, y)) (sym is)
            (Contains-cons (key, x) (k, y) rest later));
      }

  none-left : (slab : Slab T) (best : Option (ℕ × ℕ)) (key : ℕ) (x : T) → Walks slab [] best → get slab key ≡ Some x →
      IsBelow best (f x)
  none-left slab best key x w there = elim (w.seen key x there) [
    | inl left ↦ absurd (omega (arith, left.1))
    | inr below ↦ below
  ]

  pub walks-most : (slab : Slab T) (rest : List (ℕ × T)) (best : Option (ℕ × ℕ)) (b : ℕ × ℕ) → rest ≡ [] →
      best ≡ Some b → Walks slab rest best → IsMost f slab b.0
  walks-most slab rest best b none is walks =
      let w : Walks slab [] (Some b) = subst (λ (o : Option (ℕ × ℕ)). Walks slab [] o) is
      (subst (λ (l : List (ℕ × T)). Walks slab l best) none walks) in
      record {
        value = w.found.0;
        there = w.found.1;
        most = λ other x there. omega (arith, none-left slab (Some b) other x w there, w.found.2);
      }

  pub walks-none : (slab : Slab T) (rest : List (ℕ × T)) (best : Option (ℕ × ℕ)) → rest ≡ [] → best ≡ None →
      Walks slab rest best → (key : ℕ) → get slab key ≡ None
  walks-none slab rest best none is walks key = by (get slab key) refl
    where
      w : Walks slab [] None
      w = subst (λ (o : Option (ℕ × ℕ)). Walks slab [] o) is
          (subst (λ (l : List (ℕ × T)). Walks slab l best) none walks)

      by : (o : Option T) → get slab key ≡ o → o ≡ None
      by None there = refl
      by (Some x) there = absurd (none-left slab None key x w there)

-- the list of an iterator loses its first entry
pub rest-listed : {T : Type 0} (slab : Slab T) (all rest : List (ℕ × T)) (key : ℕ) (x : T) → all ≡ (key, x) ∷ rest →
    ((k : ℕ) (y : T) → Contains all (k, y) → get slab k ≡ Some y) →
    (k : ℕ) (y : T) → Contains rest (k, y) → get slab k ≡ Some y
rest-listed {T} slab all rest key x is listed k y there =
    listed k y (subst (λ (l : List (ℕ × T)). Contains l (k, y)) (sym is) (Contains-cons (key, x) (k, y) rest there))

pub first-listed : {T : Type 0} (slab : Slab T) (all rest : List (ℕ × T)) (key : ℕ) (x : T) → all ≡ (key, x) ∷ rest →
    ((k : ℕ) (y : T) → Contains all (k, y) → get slab k ≡ Some y) → get slab key ≡ Some x
first-listed {T} slab all rest key x is listed =
    listed key x (subst (λ (l : List (ℕ × T)). Contains l (key, x)) (sym is) (0, omega arith, refl))

pub all-listed : {T : Type 0} (slab : Slab T) (all : List (ℕ × T)) → all ≡ entries slab →
    (k : ℕ) (y : T) → Contains all (k, y) → get slab k ≡ Some y
all-listed {T} slab all is k y there =
    (Contains-entries slab k y).0 (subst (λ (l : List (ℕ × T)). Contains l (k, y)) is there)

-- a walk that looks for a value of which a test holds: of all that are not left it does not
module _ {T : Type 0} (test : T → Bool) where
  abbrev pub IsLeft : Slab T → List (ℕ × T) → Type 0
  IsLeft slab rest = (key : ℕ) (x : T) → get slab key ≡ Some x → Contains rest (key, x) ⊎ (test x ≡ false)

  pub left-start : (slab : Slab T) (all : List (ℕ × T)) → all ≡ entries slab → IsLeft slab all
  left-start slab all is key x there =
      inl (subst (λ (l : List (ℕ × T)). Contains l (key, x)) (sym is) ((Contains-entries slab key x).1 there))

  pub left-step : (slab : Slab T) (all rest : List (ℕ × T)) (key : ℕ) (x : T) → all ≡ (key, x) ∷ rest →
      test x ≡ false → IsLeft slab all → IsLeft slab rest
  left-step slab all rest key x is not_so left k y there = elim (left k y there) [
    | inl later ↦ elim (Contains-cons_cases (key, x) (k, y) rest
        (subst (λ (l : List (ℕ × T)). Contains l (k, y)) is later)) [
          | inl same ↦ inr (subst (λ (z : T). test z ≡ false) (ap (λ (p : ℕ × T). p.1) same) not_so)
          | inr more ↦ inl more
        ]
    | inr no_more ↦ inr no_more
  ]

  pub left-none : (slab : Slab T) (rest : List (ℕ × T)) → rest ≡ [] → IsLeft slab rest → (key : ℕ) (x : T) →
      get slab key ≡ Some x → test x ≡ false
  left-none slab rest none left key x there = elim (left key x there) [
    | inl later ↦ absurd (omega (arith, (subst (λ (l : List (ℕ × T)). Contains l (key, x)) none later).1))
    | inr not_so ↦ not_so
  ]
