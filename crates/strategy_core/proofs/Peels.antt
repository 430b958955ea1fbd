-- The shares of a row that cuts so many items off the front.
use Rattle.std.proofs.Common.{◌≡◌, ℕ, zero, suc, ◌+◌, ◌-◌, ◌<◌, true, false, [], ◌∷◌, length, take, refl, sym, ap}
use Rattle.std.proofs.Common.{subst, ◌∙◌, arith, sum, cond, max, min}
use Rattle.std.specs.Prelude.{nat_lt}
use Rattle.std.proofs.lemmas.Bool.{lt-ltb}
use Rattle.definitions.specs.Strategies.{without_zeros, shares_by, Peel}
use Rattle.strategy_core.specs.Acts.{greatest}
use Rattle.strategy_core.proofs.Shares.{count_more, greatest_more, taken_more}

rest_is : (front n first : ℕ) → first ≡ min front n → n - first ≡ n - front
rest_is front n first e = omega arith

pub two_counted : (front n first a b : ℕ) → first ≡ min front n → a ≡ 0 + length (without_zeros (first ∷ [])) →
    b ≡ a + length (without_zeros ((n - first) ∷ [])) →
    b ≡ length (shares_by (Peel front) n)
two_counted front n first a b e f g =
    let rest = ap (λ d. length (without_zeros (d ∷ []))) (rest_is front n first e) in
    let head = ap (λ d. length (without_zeros (d ∷ []))) e in
    omega (arith, count_more (min front n) ((n - front) ∷ []))

pub two_greatest : (front n first a b : ℕ) → first ≡ min front n → a ≡ max 0 first → b ≡ max a (n - first) →
    b ≡ greatest (shares_by (Peel front) n)
two_greatest front n first a b e f g =
    omega (arith, rest_is front n first e, greatest_more (min front n) ((n - front) ∷ []), greatest_more (n - front) [])

-- ---- so many of them

none_left : (m : ℕ) → sum (take m (without_zeros [])) ≡ 0
none_left zero = refl
none_left (suc m) = refl

both_taken : (d f j : ℕ) → 0 < j → 0 < j - cond (nat_lt 0 d) 1 0 → sum (take j (without_zeros (d ∷ f ∷ []))) ≡ d + f
both_taken d f j some left =
    let k : ℕ = j - cond (nat_lt 0 d) 1 0 in
    taken_more d j (f ∷ []) some
    ∙ ap (λ s. d + s) (taken_more f k [] left ∙ ap (λ s. f + s) (none_left (k - cond (nat_lt 0 f) 1 0)) ∙ omega arith)

positive : (d j : ℕ) → 0 < j → (j ≡ 1 → d ≡ 0) → 0 < j - cond (nat_lt 0 d) 1 0
positive d zero some one = absurd (omega arith)
positive d (suc zero) some one = subst (λ k. 0 < suc zero - cond (nat_lt 0 k) 1 0) (sym (one refl)) (omega arith)
positive d (suc (suc j)) some one =
    elim (nat_lt 0 d) as (λ b. 0 < suc (suc j) - cond b 1 0) [ true ↦ omega arith | false ↦ omega arith ]

-- none of them
pub none_cut : (front n j : ℕ) → j ≡ 0 → 0 ≡ sum (take j (shares_by (Peel front) n))
none_cut front n j e = subst (λ k. 0 ≡ sum (take k (shares_by (Peel front) n))) (sym e) refl

-- all of them
pub many_cut : (front n j : ℕ) → 1 < j → n ≡ sum (take j (shares_by (Peel front) n))
many_cut front n j many = omega (
  arith,
  both_taken (min front n) (n - front) j (omega arith)
      (positive (min front n) j (omega arith) (λ e. absurd (omega arith))),
)

-- the only one
pub only_cut : (front n first j : ℕ) → first ≡ min front n → 0 < j → first ≡ 0 →
    n ≡ sum (take j (shares_by (Peel front) n))
only_cut front n first j e some none =
    omega (arith, both_taken (min front n) (n - front) j some (positive (min front n) j some (λ k. sym e ∙ none)))

-- the first
pub first_cut : (front n first j : ℕ) → first ≡ min front n → j ≡ 1 → 0 < first →
    first ≡ sum (take j (shares_by (Peel front) n))
first_cut front n first j e one some =
    let d : ℕ = min front n in
    let none : 1 - cond (nat_lt 0 d) 1 0 ≡ 0 = ap (λ b. 1 - cond b 1 0) (lt-ltb 0 d (omega arith)) in
    let all : sum (take 1 (without_zeros (d ∷ (n - front) ∷ []))) ≡ d + 0 =
    taken_more d 1 ((n - front) ∷ []) (omega arith)
    ∙ ap (λ k. d + sum (take k (without_zeros ((n - front) ∷ [])))) none in
    subst (λ k. first ≡ sum (take k (shares_by (Peel front) n))) (sym one) (omega arith)
