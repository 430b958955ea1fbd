-- The row of a count, found by where the rows end.
use Rattle.std.proofs.Common.{◌≡◌, ℕ, zero, suc, ◌+◌, ◌-◌, ◌<◌, ◌≤◌, true, false, List, [], ◌∷◌, length, map, refl, ap}
use Rattle.std.proofs.Common.{◌∙◌, arith, max, drop, inl, inr}
use Rattle.std.specs.Prelude.{nat_lt, nat_le, slice_index, slice_index_or}
use Rattle.std.specs.List.Sorted.{IsPartitionPoint, IsPartitionedBy, IsStrictlyIncreasing}
use Rattle.std.proofs.lemmas.Bool.{ltb-true, ltb-false, le-leb, lt-leb, cond-true, cond-false, cases_lt}
use Rattle.std.proofs.lemmas.List.{drop_all}
use Rattle.std.proofs.lemmas.List.Sorted.{IsPartitionedBy-ltb}
use Rattle.definitions.specs.Strategies.{Row, Table, act_in, widest, IsTable, uptos}

-- the first i rows end before n, and no later one
abbrev pub EndBefore : ℕ → List Row → ℕ → Type 0
EndBefore n rows i = IsPartitionPoint (λ row. nat_lt row.upto n ≡ true) (λ row. nat_lt row.upto n ≡ false) rows i

-- ---- rows that rise

not_falling : (xs : List ℕ) → IsStrictlyIncreasing xs → (i d : ℕ) → i + d < length xs →
    slice_index xs i ≤ slice_index xs (i + d)
not_falling xs rise i zero h = let same : i ≡ i + 0 = omega arith in omega (arith, ap (slice_index xs) same)
not_falling xs rise i (suc d) h = let same : i + d + 1 ≡ i + suc d = omega arith in
    omega (arith, ap (slice_index xs) same, rise (i + d) (omega arith), not_falling xs rise i d (omega arith))

pub upto_at : (rows : List Row) (i : ℕ) (d : Row) → i < length rows →
    slice_index (map (λ row. row.upto) rows) i ≡ (slice_index_or rows i d).upto
upto_at [] i d h = absurd (omega arith)
upto_at (row ∷ rows) zero d h = refl
upto_at (row ∷ rows) (suc i) d h = upto_at rows i d (omega arith)

pub length-uptos : (rows : List Row) → length (map (λ row. row.upto) rows) ≡ length rows
length-uptos [] = refl
length-uptos (row ∷ rows) = ap suc (length-uptos rows)

pub parted_at : (rows : List Row) (n : ℕ) → IsStrictlyIncreasing (map (λ row. row.upto) rows) →
    IsPartitionedBy (λ row. nat_lt row.upto n) rows
parted_at rows n rise =
    IsPartitionedBy-ltb (λ row. row.upto) rows n (λ i j d le lt.
    let between = not_falling (map (λ row. row.upto) rows) rise i (j - i) (omega (arith, length-uptos rows)) in
    let there : slice_index (map (λ row. row.upto) rows) (i + (j - i)) ≡ slice_index (map (λ row. row.upto) rows) j =
    let k : i + (j - i) ≡ j = omega arith in ap (slice_index (map (λ row. row.upto) rows)) k in
    omega (arith, upto_at rows i d (omega arith), upto_at rows j d lt))

-- ---- the row that is found

pub found_row : (rows : List Row) (n i : ℕ) (row : Row) → EndBefore n rows i → i < length rows →
    act_in rows n ≡ (slice_index_or rows i row).act
found_row [] n i d parted h = absurd (omega arith)
found_row (row ∷ rows) n zero d parted h = cond-true (nat_le n row.upto) row.act (act_in rows n)
    (le-leb n row.upto (ltb-false row.upto n (parted.1 zero d (omega arith) (omega arith))))
found_row (row ∷ rows) n (suc i) d parted h =
    cond-false (nat_le n row.upto) row.act (act_in rows n)
    (lt-leb n row.upto (ltb-true row.upto n (parted.0 zero d (omega arith) (omega arith))))
    ∙ found_row rows n i d (
      (λ k e low high. parted.0 (suc k) e (omega arith) (omega arith)),
      (λ k e low high. parted.1 (suc k) e (omega arith) (omega arith)),
    ) (omega arith)

some_rows : (T : Table) → IsTable T → 0 < length T.rows
some_rows T t = let none : (rows : List Row) → length rows ≡ 0 →
    slice_index (map (λ row. row.upto) rows) (length (map (λ row. row.upto) rows) - 1) ≡ 0 =
    elim [ [] ↦ λ e. refl | row ∷ rows ↦ λ e. absurd (omega arith) ] in
    grind (arith, none T.rows, t.reach, t.cap_from)

-- some row does not end before n
pub row_is_there : (T : Table) (n i : ℕ) (d : Row) → IsTable T → n ≤ T.cap → EndBefore n T.rows i → i < length T.rows
row_is_there T n i d t h parted = elim (cases_lt i (length T.rows)) [
  | inl inside ↦ inside
  | inr past ↦
      let some = some_rows T t in
      let last = length T.rows - 1 in
      let before = ltb-true _ n (parted.0 last d (omega arith) (omega arith)) in
      let same : length (uptos T) - 1 ≡ last = omega (arith, length-uptos T.rows) in
      absurd (omega (arith, t.reach, upto_at T.rows last d (omega arith), ap (slice_index (uptos T)) same))
]

-- ---- the widest row

pub widest-positive : (rows : List Row) → 1 ≤ widest rows
widest-positive [] = omega arith
widest-positive (row ∷ rows) = omega (arith, widest-positive rows)

pub widest_all : (rows : List Row) (i w : ℕ) → length rows ≤ i → max w (widest (drop i rows)) ≡ widest rows → 1 ≤ w →
    w ≡ widest rows
widest_all rows i w past e one = let none = ap widest (drop_all i rows past) in omega arith
