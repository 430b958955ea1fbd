-- Numbers that rise, and how many of them are below another.
use Rattle.std.proofs.Common.{◌≡◌, ℕ, zero, suc, ◌+◌, ◌-◌, ◌<◌, ◌≤◌, Bool, true, false, ◌||◌, List, [], ◌∷◌, ◌++◌}
use Rattle.std.proofs.Common.{length, refl, sym, ap, ◌∙◌, arith, cond, max, inl, inr}
use Rattle.std.specs.Prelude.{slice_index, slice_index_or, nat_lt, nat_le}
use Rattle.std.specs.List.{AllByRecursion, list_any}
use Rattle.std.specs.List.Sorted.{IsStrictlyIncreasing, IsPartitionedBy}
use Rattle.std.proofs.lemmas.List.Sorted.{IsPartitionedBy-ltb}
use Rattle.std.proofs.lemmas.Bool.{cases_lt, lt-ltb, le-ltb, le-leb, lt-leb, or_left, or_right, or_from}
use Rattle.std.proofs.lemmas.List.Sums.{sum_by-cons}
use Rattle.definitions.specs.Ranks.{rank_by}
use Rattle.definitions.specs.Climbs.{above_all_by}
use Rattle.strategy_core.specs.Acts.{greatest}

-- ---- numbers that rise

-- each is above the one before it, and the first at or above low
abbrev pub RisesFrom : ℕ → List ℕ → Type 0
RisesFrom low [] = Unit {0}
RisesFrom low (x ∷ xs) = (low ≤ x) × RisesFrom (suc x) xs

pub rises_from : (low : ℕ) (xs : List ℕ) → IsStrictlyIncreasing xs → (0 < length xs → low ≤ slice_index xs 0) →
    RisesFrom low xs
rises_from low [] rise first = tt
rises_from low (x ∷ xs) rise first = (
  first (omega arith),
  rises_from (suc x) xs (λ k h. let on : k + 1 ≡ suc k = omega arith in
      let up : suc k + 1 ≡ suc (suc k) = omega arith in
      omega (arith, rise (suc k) (omega arith), ap (slice_index xs) on, ap (slice_index (x ∷ xs)) up))
      (λ h. rise 0 (omega arith)),
)

pub increasing : (low : ℕ) (xs : List ℕ) → RisesFrom low xs → IsStrictlyIncreasing xs
increasing low [] h k l = absurd (omega arith)
increasing low (x ∷ []) h k l = absurd (omega arith)
increasing low (x ∷ y ∷ xs) h zero l = h.1.0
increasing low (x ∷ y ∷ xs) h (suc k) l =
    let on : k + 1 ≡ suc k = omega arith in
    let up : suc k + 1 ≡ suc (suc k) = omega arith in
    omega (
      arith,
      increasing (suc x) (y ∷ xs) h.1 k (omega arith),
      ap (slice_index (y ∷ xs)) on,
      ap (slice_index (x ∷ y ∷ xs)) up,
    )

pub rises_on : (low : ℕ) (xs : List ℕ) (y : ℕ) → low ≤ y → AllByRecursion (λ x. x < y) xs → RisesFrom low xs →
    RisesFrom low (xs ++ y ∷ [])
rises_on low [] y h below rise = (h, tt)
rises_on low (x ∷ xs) y h below rise = (rise.0, rises_on (suc x) xs y below.0 below.1 rise.1)

-- ---- how many are below a number

rank_by-cons : (x : ℕ) (xs : List ℕ) (n : ℕ) → rank_by (x ∷ xs) n ≡ cond (nat_lt x n) 1 0 + rank_by xs n
rank_by-cons x xs n = sum_by-cons (λ step. cond (nat_lt step n) 1 0) x xs

rank_by-yes : (x : ℕ) (xs : List ℕ) (n : ℕ) → x < n → rank_by (x ∷ xs) n ≡ suc (rank_by xs n)
rank_by-yes x xs n h = let e = ap (λ (b : Bool). cond b 1 0 + rank_by xs n) (lt-ltb x n h) in
    rank_by-cons x xs n ∙ e ∙ omega arith

rank_by-no : (x : ℕ) (xs : List ℕ) (n : ℕ) → n ≤ x → rank_by (x ∷ xs) n ≡ rank_by xs n
rank_by-no x xs n h = let e = ap (λ (b : Bool). cond b 1 0 + rank_by xs n) (le-ltb x n h) in
    rank_by-cons x xs n ∙ e ∙ omega arith

pub rank_by-rises : (xs : List ℕ) (m n : ℕ) → m ≤ n → rank_by xs m ≤ rank_by xs n
rank_by-rises [] m n h = omega arith
rank_by-rises (x ∷ xs) m n h =
    let ih = rank_by-rises xs m n h in
    elim (cases_lt x n) [
      | inl under ↦ elim (cases_lt x m) [
        | inl a ↦ omega (arith, rank_by-yes x xs n under, rank_by-yes x xs m a)
        | inr b ↦ omega (arith, rank_by-yes x xs n under, rank_by-no x xs m b)
      ]
      | inr over ↦ omega (arith, rank_by-no x xs n over, rank_by-no x xs m (omega arith))
    ]

pub rank_by-most : (xs : List ℕ) (n : ℕ) → rank_by xs n ≤ length xs
rank_by-most [] n = omega arith
rank_by-most (x ∷ xs) n =
    let ih = rank_by-most xs n in
    elim (cases_lt x n) [
      | inl under ↦ omega (arith, rank_by-yes x xs n under)
      | inr over ↦ omega (arith, rank_by-no x xs n over)
    ]

pub rank_by-small : (low : ℕ) (xs : List ℕ) (n : ℕ) → RisesFrom low xs → rank_by xs n ≤ n - low
rank_by-small low [] n rise = omega arith
rank_by-small low (x ∷ xs) n rise =
    let ih = rank_by-small (suc x) xs n rise.1 in
    let first = rise.0 in
    elim (cases_lt x n) [
      | inl under ↦ omega (arith, rank_by-yes x xs n under)
      | inr over ↦ omega (arith, rank_by-no x xs n over)
    ]

-- ---- the greatest share has the greatest rank

rank_by-max : (steps : List ℕ) (m n : ℕ) → rank_by steps (max m n) ≡ max (rank_by steps m) (rank_by steps n)
rank_by-max steps m n = elim (cases_lt m n) [
  | inl under ↦ let e : max m n ≡ n = omega arith in
      ap (rank_by steps) e ∙ (let up = rank_by-rises steps m n (omega arith) in omega arith)
  | inr over ↦ let e : max m n ≡ m = omega arith in
      ap (rank_by steps) e ∙ (let up = rank_by-rises steps n m over in omega arith)
]

rank_by-zero : (steps : List ℕ) → rank_by steps 0 ≡ 0
rank_by-zero [] = refl
rank_by-zero (x ∷ xs) = rank_by-no x xs 0 (omega arith) ∙ rank_by-zero xs

pub above_none : (steps ss : List ℕ) → length ss ≡ 0 → above_all_by steps ss ≡ 0
above_none steps [] e = refl
above_none steps (s ∷ ss) e = absurd (omega arith)

pub above_greatest : (steps ss : List ℕ) → 0 < length ss → above_all_by steps ss ≡ rank_by steps (greatest ss) + 1
above_greatest steps [] h = absurd (omega arith)
above_greatest steps (s ∷ []) h = omega (arith, rank_by-max steps s 0, rank_by-zero steps)
above_greatest steps (s ∷ t ∷ ss) h =
    omega (arith, rank_by-max steps s (greatest (t ∷ ss)), above_greatest steps (t ∷ ss) (omega arith))

le_max : (r a b : ℕ) → nat_le r (max a b) ≡ nat_le r a || nat_le r b
le_max r a b = elim (cases_lt a r) [
  | inl a_low ↦ elim (cases_lt b r) [
    | inl b_low ↦
        lt-leb r (max a b) (omega arith) ∙ sym (or_from (nat_le r a) (nat_le r b) (lt-leb r a a_low) (lt-leb r b b_low))
    | inr b_high ↦ le-leb r (max a b) (omega arith) ∙ sym (or_right (nat_le r a) (nat_le r b) (le-leb r b b_high))
  ]
  | inr a_high ↦ le-leb r (max a b) (omega arith) ∙ sym (or_left (nat_le r a) (nat_le r b) (le-leb r a a_high))
]

or_false : (b : Bool) → b || false ≡ b
or_false true = refl
or_false false = refl

-- a share of this rank or more is there exactly where the greatest is one
pub any_greatest : (steps ss : List ℕ) (r : ℕ) → 0 < length ss →
    list_any (λ s. nat_le r (rank_by steps s)) ss ≡ nat_le r (rank_by steps (greatest ss))
any_greatest steps [] r h = absurd (omega arith)
any_greatest steps (s ∷ []) r h =
    let same : rank_by steps (greatest (s ∷ [])) ≡ rank_by steps s =
    omega (arith, rank_by-max steps s 0, rank_by-zero steps) in
    or_false (nat_le r (rank_by steps s)) ∙ ap (nat_le r) (sym same)
any_greatest steps (s ∷ t ∷ ss) r h =
    ap (λ b. nat_le r (rank_by steps s) || b) (any_greatest steps (t ∷ ss) r (omega arith))
    ∙ sym (ap (nat_le r) (rank_by-max steps s (greatest (t ∷ ss)))
    ∙ le_max r (rank_by steps s) (rank_by steps (greatest (t ∷ ss))))

pub any_none : (steps ss : List ℕ) (r : ℕ) → length ss ≡ 0 → list_any (λ s. nat_le r (rank_by steps s)) ss ≡ false
any_none steps [] r e = refl
any_none steps (s ∷ ss) r e = absurd (omega arith)

-- ---- where the numbers below n end

at_index : (xs : List ℕ) (i d : ℕ) → i < length xs → slice_index_or xs i d ≡ slice_index xs i
at_index [] i d h = absurd (omega arith)
at_index (x ∷ xs) zero d h = refl
at_index (x ∷ xs) (suc i) d h = at_index xs i d (omega arith)

not_falling : (xs : List ℕ) → IsStrictlyIncreasing xs → (i d : ℕ) → i + d < length xs →
    slice_index xs i ≤ slice_index xs (i + d)
not_falling xs rise i zero h = let same : i ≡ i + 0 = omega arith in omega (arith, ap (slice_index xs) same)
not_falling xs rise i (suc d) h = let same : i + d + 1 ≡ i + suc d = omega arith in
    omega (arith, ap (slice_index xs) same, rise (i + d) (omega arith), not_falling xs rise i d (omega arith))

pub parted_below : (xs : List ℕ) (n : ℕ) → IsStrictlyIncreasing xs → IsPartitionedBy (λ x. nat_lt x n) xs
parted_below xs n rise =
    IsPartitionedBy-ltb (λ x. x) xs n (λ i j d le lt.
    let between = not_falling xs rise i (j - i) (omega arith) in
    let there : i + (j - i) ≡ j = omega arith in
    omega (arith, at_index xs i d (omega arith), at_index xs j d lt, ap (slice_index xs) there))
