-- Doubling a number so often adds it to itself, so it passes through sums and adds up over times, each by induction
-- over how often. With this in place of powers all sums of shares are linear.
use Rattle.std.proofs.Common.{◌≡◌, ℕ, ◌+◌, zero, suc, refl, ap, ◌∙◌, arith}
use Rattle.version_lock.specs.Views.{doubled}

pub doubled_sum : (n x y : ℕ) → doubled n (x + y) ≡ doubled n x + doubled n y
doubled_sum zero x y = refl
doubled_sum (suc n) x y =
    let same : (x + y) + (x + y) ≡ (x + x) + (y + y) = omega arith in
    ap (doubled n) same ∙ doubled_sum n (x + x) (y + y)

pub doubled_again : (m n x : ℕ) → doubled n (doubled m x) ≡ doubled (m + n) x
doubled_again zero n x = let same : n ≡ 0 + n = omega arith in ap (λ (k : ℕ). doubled k x) same
doubled_again (suc m) n x =
    let k : suc (m + n) ≡ suc m + n = omega arith in
    doubled_again m n (x + x) ∙ ap (λ (k : ℕ). doubled k x) k

pub doubled_none : (n x : ℕ) → doubled n x ≡ 0 → x ≡ 0
doubled_none zero x none = none
doubled_none (suc n) x none = omega (arith, doubled_none n (x + x) none)

pub none_doubled : (n : ℕ) → doubled n 0 ≡ 0
none_doubled zero = refl
none_doubled (suc n) = none_doubled n

-- once more
pub doubled_more : (k n x : ℕ) → k ≡ n + 1 → doubled k x ≡ doubled n x + doubled n x
doubled_more k n x is =
    let same : k ≡ suc n = omega arith in
    ap (λ (j : ℕ). doubled j x) same ∙ doubled_sum n x x
