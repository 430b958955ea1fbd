-- Steps of a binary search.
use Rattle.std.proofs.Common.{◌≡◌, ℕ, zero, suc, ◌+◌, ◌/◌, ◌<◌, ◌≤◌, Bool, true, false, List, length, get_or, refl, sym}
use Rattle.std.proofs.Common.{ap, ◌∙◌, arith}
use Rattle.std.specs.List.Sorted.{IsPartitionedBy}
use Rattle.std.proofs.lemmas.List.{get_or_read}

module _ {X : Type 0} (p : X → Bool) (xs : List X) (mono : IsPartitionedBy p xs) (m : ℕ) (x : X) (low : m < length xs)
    (read : x ≡ get_or xs m x) where
  pub passes_up_to : p x ≡ true → (k : ℕ) (d : X) → k < m + 1 → p (get_or xs k d) ≡ true
  passes_up_to e k d below = mono k m d (omega arith) low (ap p (sym (get_or_read xs m x low read d)) ∙ e)

  fails_by : p x ≡ false → (k : ℕ) (d : X) → m ≤ k → k < length xs → (b : Bool) → p (get_or xs k d) ≡ b →
      p (get_or xs k d) ≡ false
  fails_by e k d from within false is = is
  fails_by e k d from within true is =
      let here : p (get_or xs m d) ≡ true = mono m k d from within is in
      let there : p (get_or xs m d) ≡ false = ap p (sym (get_or_read xs m x low read d)) ∙ e in
      absurd (cc)

  pub fails_from : p x ≡ false → (k : ℕ) (d : X) → m ≤ k → k < length xs → p (get_or xs k d) ≡ false
  fails_from e k d from within = fails_by e k d from within (p (get_or xs k d)) refl

-- ---- how many steps are made where there are at most 64 elements

-- how many elements are left at most after s steps
abbrev pub left_after : ℕ → ℕ
left_after zero = 64
left_after (suc s) = left_after s / 2

spent : (s : ℕ) → left_after (suc (suc (suc (suc (suc (suc (suc s))))))) ≡ 0
spent zero = refl
spent (suc s) = rw (spent s) refl

six_most : (s : ℕ) → 0 < left_after s → s ≤ 6
six_most zero some = omega arith
six_most (suc zero) some = omega arith
six_most (suc (suc zero)) some = omega arith
six_most (suc (suc (suc zero))) some = omega arith
six_most (suc (suc (suc (suc zero)))) some = omega arith
six_most (suc (suc (suc (suc (suc zero))))) some = omega arith
six_most (suc (suc (suc (suc (suc (suc zero)))))) some = omega arith
six_most (suc (suc (suc (suc (suc (suc (suc s))))))) some = let none = spent s in absurd (omega arith)

pub halved : (s size less : ℕ) → (size ≤ left_after s) × (s ≤ 7) → 0 < size → less + less ≤ size →
    (less ≤ left_after (s + 1)) × (s + 1 ≤ 7)
halved s size less few some half =
    let next : s + 1 ≡ suc s = omega arith in
    let left = few.0 in
    let most = six_most s (omega arith) in
    (rw next (omega arith), omega arith)
