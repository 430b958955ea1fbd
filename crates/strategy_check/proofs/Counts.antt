-- Looking through the counts, and through the steps.
use Rattle.std.proofs.Common.{◌≡◌, ℕ, zero, suc, ◌+◌, ◌-◌, ◌<◌, ◌≤◌, Bool, true, false, not, ◌||◌, Some, None, List, []}
use Rattle.std.proofs.Common.{◌∷◌, length, drop, ap, ◌∙◌, arith, cond}
use Rattle.std.specs.Prelude.{nat_lt, nat_le, find, slice_index}
use Rattle.std.specs.List.{range_with_len, list_any}
use Rattle.std.specs.List.Sorted.{IsPartitionPoint}
use Rattle.std.proofs.lemmas.Bool.{cond-true, cond-false, lt-ltb, le-ltb, le-leb}
use Rattle.std.proofs.lemmas.List.{drop_more, drop_all}
use Rattle.std.proofs.lemmas.List.Sums.{sum_by-cons}
use Rattle.definitions.specs.Strategies.{Table, shares}
use Rattle.strategy_core.specs.Acts.{greatest}
use Rattle.strategy_check.proofs.Steps.{any_greatest}
use Rattle.definitions.specs.Ranks.{rank_by, first_fall, is_unfit, is_stuck}

-- ---- the counts that are left to be looked at

pub look_on : (p : ℕ → Bool) (n m : ℕ) → n < m → p n ≡ false →
    find p (range_with_len n (m - n)) ≡ find p (range_with_len (n + 1) (m - (n + 1)))
look_on p n m h e =
    let more : m - n ≡ suc (m - (n + 1)) = omega arith in
    ap (λ k. find p (range_with_len n k)) more
    ∙ cond-false (p n) (Some n) (find p (range_with_len (n + 1) (m - (n + 1)))) e

pub look_found : (p : ℕ → Bool) (n m : ℕ) → n < m → p n ≡ true → find p (range_with_len n (m - n)) ≡ Some n
look_found p n m h e =
    let more : m - n ≡ suc (m - (n + 1)) = omega arith in
    ap (λ k. find p (range_with_len n k)) more
    ∙ cond-true (p n) (Some n) (find p (range_with_len (n + 1) (m - (n + 1)))) e

pub look_none : (p : ℕ → Bool) (n m : ℕ) → m ≤ n → find p (range_with_len n (m - n)) ≡ None
look_none p n m h = let none : m - n ≡ 0 = omega arith in ap (λ k. find p (range_with_len n k)) none

-- ---- the steps that are left to be looked at

pub fall_on : (before : ℕ) (xs : List ℕ) (i : ℕ) → i < length xs → before < slice_index xs i →
    first_fall before (drop i xs) ≡ first_fall (slice_index xs i) (drop (i + 1) xs)
fall_on before xs i h above =
    ap (first_fall before) (drop_more xs i 0 h) ∙ cond-true (nat_lt before (slice_index xs i))
    (first_fall (slice_index xs i) (drop (i + 1) xs)) (Some (slice_index xs i)) (lt-ltb before (slice_index xs i) above)

pub fall_found : (before : ℕ) (xs : List ℕ) (i : ℕ) → i < length xs → slice_index xs i ≤ before →
    first_fall before (drop i xs) ≡ Some (slice_index xs i)
fall_found before xs i h below =
    ap (first_fall before) (drop_more xs i 0 h) ∙ cond-false (nat_lt before (slice_index xs i))
    (first_fall (slice_index xs i) (drop (i + 1) xs)) (Some (slice_index xs i)) (le-ltb before (slice_index xs i) below)

pub fall_none : (before : ℕ) (xs : List ℕ) (i : ℕ) → length xs ≤ i → first_fall before (drop i xs) ≡ None
fall_none before xs i h = ap (first_fall before) (drop_all i xs h)

-- ---- where the steps below n end

pub rank_at_point : (xs : List ℕ) (n i : ℕ) → IsPartitionPoint (λ x. nat_lt x n ≡ true) (λ x. nat_lt x n ≡ false) xs i →
    i ≤ length xs → rank_by xs n ≡ i
rank_at_point [] n i parted h = omega arith
rank_at_point (x ∷ xs) n zero parted h =
    let rest = rank_at_point xs n zero (
      (λ k d low high. absurd (omega arith)),
      (λ k d low high. parted.1 (suc k) d (omega arith) (omega arith)),
    ) (omega arith) in
    let one = ap (λ (b : Bool). cond b 1 0 + rank_by xs n) (parted.1 zero 0 (omega arith) (omega arith)) in
    sum_by-cons (λ step. cond (nat_lt step n) 1 0) x xs ∙ one ∙ omega arith
rank_at_point (x ∷ xs) n (suc i) parted h =
    let rest = rank_at_point xs n i (
      (λ k d low high. parted.0 (suc k) d (omega arith) (omega arith)),
      (λ k d low high. parted.1 (suc k) d (omega arith) (omega arith)),
    ) (omega arith) in
    let one = ap (λ (b : Bool). cond b 1 0 + rank_by xs n) (parted.0 zero 0 (omega arith) (omega arith)) in
    sum_by-cons (λ step. cond (nat_lt step n) 1 0) x xs ∙ one ∙ omega arith

-- ---- a count that has a rank and is not stuck

pub unfit_by_shares : (T : Table) (steps : List ℕ) (n : ℕ) → n ≤ slice_index steps (length steps - 1) →
    is_stuck T n ≡ false → 0 < length (shares T n) →
    is_unfit T steps n ≡ nat_le (rank_by steps n) (rank_by steps (greatest (shares T n)))
unfit_by_shares T steps n within free some =
    let any : Bool = list_any (λ s. nat_le (rank_by steps n) (rank_by steps s)) (shares T n) in
    ap (λ b. (not b || is_stuck T n) || any) (le-leb n (slice_index steps (length steps - 1)) within)
    ∙ ap (λ b. b || any) free ∙ any_greatest steps (shares T n) (rank_by steps n) some
