-- The rows of a table, and the shares that a count is cut into.
-- Shares are the differences of cuts that rise from 0 to n, without zeros; or, for a row that peels, the front and the
-- rest. So they are positive and, if there are two or more, they add up to n; and since each is positive, two or more
-- are each less than n. There are no more of them than the row has weights, so no more than the table is wide.
-- Rows: they rise and the last one reaches the cap, so for each count up to the cap there is a first row that reaches
-- it, none reaches past the cap, and some row reaches the cap.
-- A count that is split is stuck exactly if it has fewer than two shares. Nothing is not cut: 0 has no two shares.
-- docs/LAWS.md: Shares are parts; Lists are short (`each_served`, `rows_within`, `rows_cover`).
use Rattle.std.proofs.Common.{rules, ◌≡◌, ℕ, suc, ◌+◌, ◌-◌, ◌*◌, ◌/◌, ◌<◌, ◌≤◌, Bool, true, false, List, [], ◌∷◌}
use Rattle.std.proofs.Common.{length, refl, ap, ◌∙◌, arith, sum, cond, inl, inr, zero, ◌++◌, map}
use Rattle.std.specs.Prelude.{nat_lt, nat_le, slice_index, IsTrue}
use Rattle.definitions.proofs.Words.{AllByRecursion, list_any, Act, List_items, Split, Peel, Row, Table, act_in, act}
use Rattle.definitions.proofs.Words.{running_sums, differences, cuts_by, without_zeros, shares_by, shares, width_of}
use Rattle.definitions.proofs.Words.{widest, width, is_split, IsAct, IsTable, uptos, is_stuck}
use Rattle.definitions.proofs.Lemmas.{common_steps, ltb-true, ltb-false, leb-true, leb-false, le-leb, cond-true}
use Rattle.definitions.proofs.Lemmas.{cond-false, and_cases, or_left, or_right, sum_by-cons, div-zero, zero-div}
use Rattle.definitions.proofs.Lemmas.{mul-div_cancel, All-filter, All-map}
use Rattle.laws.specs.Ranks.{HasRow, IsCut}

-- ==== The shares of a row: what they add up to, that none but the first is 0, and how many there are

pub sum-cons : (x : ℕ) (xs : List ℕ) → sum (x ∷ xs) ≡ x + sum xs
sum-cons x xs = sum_by-cons (λ n. n) x xs

-- ---- no zeros

pub sum-without_zeros : (xs : List ℕ) → sum (without_zeros xs) ≡ sum xs
sum-without_zeros [] = refl
sum-without_zeros (x ∷ xs) = grind (arith, sum-without_zeros xs, sum-cons, ltb-false)

pub without_zeros-positive : (xs : List ℕ) → AllByRecursion (λ n. 0 < n) (without_zeros xs)
without_zeros-positive xs = All-map (λ n. nat_lt 0 n ≡ true) (λ n. 0 < n) (λ n e. ltb-true 0 n e) (without_zeros xs)
    (All-filter (λ n. nat_lt 0 n) xs)

pub length-le-sum : (xs : List ℕ) → AllByRecursion (λ n. 0 < n) xs → length xs ≤ sum xs
length-le-sum [] p = omega arith
length-le-sum (x ∷ xs) p = omega (arith, length-le-sum xs p.1, sum-cons x xs)

length-without_zeros : (xs : List ℕ) → length (without_zeros xs) ≤ length xs
length-without_zeros [] = omega arith
length-without_zeros (x ∷ xs) = grind (arith, length-without_zeros xs, suc)

-- ---- in proportion

div-le-div : (a b k : ℕ) → a ≤ b → a / k ≤ b / k
div-le-div a b k h = grind arith

sum-differences : (weights : List ℕ) (n s : ℕ) (ws : List ℕ) →
    n * s / sum weights + sum (differences (n * s / sum weights) (cuts_by weights n (running_sums s ws)))
    ≡ n * (s + sum ws) / sum weights
sum-differences weights n s [] = let e : s ≡ s + sum [] = omega arith in let end = ap (λ m. n * m / sum weights) e in
    omega arith
sum-differences weights n s (w ∷ ws) = grind (arith, sum-differences weights n (s + w) ws, div-le-div, sum-cons)

pub sum-split : (weights : List ℕ) (n : ℕ) →
    sum (differences 0 (cuts_by weights n (running_sums 0 weights))) ≡ n * sum weights / sum weights
sum-split weights n = grind (arith, sum-differences weights n 0 weights, zero-div (sum weights))

split_total : (n W : ℕ) (zs : List ℕ) → sum zs ≡ n * W / W → 2 ≤ length (without_zeros zs) → sum (without_zeros zs) ≡ n
split_total n W zs e many =
    grind (arith, div-zero, sum-without_zeros, length-le-sum, without_zeros-positive, mul-div_cancel)

-- ---- the shares of any row

-- two shares or more add up to what is cut
pub sum-shares_by : (act : Act) (n : ℕ) → 2 ≤ length (shares_by act n) → sum (shares_by act n) ≡ n
sum-shares_by List_items n h = absurd (omega arith)
sum-shares_by (Split weights) n h =
    split_total n (sum weights) (differences 0 (cuts_by weights n (running_sums 0 weights))) (sum-split weights n) h
sum-shares_by (Peel front) n h = grind arith

-- none is 0
pub shares_by-positive : (act : Act) (n : ℕ) → AllByRecursion (λ s. 0 < s) (shares_by act n)
shares_by-positive act n = search (rules, without_zeros-positive)

-- ---- how many

length-running_sums : (start : ℕ) (ws : List ℕ) → length (running_sums start ws) ≡ length ws
length-running_sums start [] = refl
length-running_sums start (w ∷ ws) = ap suc (length-running_sums (start + w) ws)

length-cuts_by : (weights : List ℕ) (n : ℕ) (ss : List ℕ) → length (cuts_by weights n ss) ≡ length ss
length-cuts_by weights n [] = refl
length-cuts_by weights n (s ∷ ss) = ap suc (length-cuts_by weights n ss)

length-differences : (start : ℕ) (cs : List ℕ) → length (differences start cs) ≡ length cs
length-differences start [] = refl
length-differences start (c ∷ cs) = ap suc (length-differences c cs)

length-shares_by : (act : Act) (n : ℕ) → length (shares_by act n) ≤ width_of act
length-shares_by act n = search (rules, length-without_zeros, length-differences, length-cuts_by, length-running_sums)

pub widest-positive : (rows : List Row) → 1 ≤ widest rows
widest-positive [] = omega arith
widest-positive (row ∷ rows) = omega (arith, widest-positive rows)

pub width_of-act_in : (rows : List Row) (n : ℕ) → width_of (act_in rows n) ≤ widest rows
width_of-act_in [] n = omega arith
width_of-act_in (row ∷ rows) n = grind (arith, width_of-act_in rows n)

-- no more shares than the table is wide
pub length-shares : (T : Table) (n : ℕ) → length (shares T n) ≤ width T
length-shares T n = omega (arith, length-shares_by (act T n) n, width_of-act_in T.rows n)

-- ==== The rows and shares of a table

-- ---- shares

each_within : (xs : List ℕ) (k : ℕ) → sum xs ≤ k → AllByRecursion (λ s. s ≤ k) xs
each_within [] k h = tt
each_within (x ∷ xs) k h = (omega (arith, sum-cons x xs), each_within xs k (omega (arith, sum-cons x xs)))

each_below : (xs : List ℕ) (n : ℕ) → AllByRecursion (λ s. 0 < s) xs → sum xs ≡ n → 2 ≤ length xs →
    AllByRecursion (λ s. s < n) xs
each_below [] n p e h = absurd (omega arith)
each_below (x ∷ []) n p e h = absurd (omega arith)
each_below (x ∷ y ∷ zs) n p e h =
    let b = p.1.0 in
    let c = sum-cons x (y ∷ zs) in
    let d = sum-cons y zs in (
      omega arith,
      All-map (λ s. s ≤ n - 1) (λ s. s < n) (λ s k. omega arith) (y ∷ zs) (each_within (y ∷ zs) (n - 1) (omega arith)),
    )

-- two shares or more are each below what is cut
pub shares-below : (T : Table) (n : ℕ) → 2 ≤ length (shares T n) → AllByRecursion (λ s. s < n) (shares T n)
shares-below T n h = each_below (shares T n) n (shares_by-positive (act T n) n) (sum-shares_by (act T n) n h) h

pub shares-none : (act : Act) (n : ℕ) → is_split act ≡ false → shares_by act n ≡ []
shares-none act n e = search (rules)

-- nothing is not cut
pub zero_uncut : (T : Table) → 2 ≤ length (shares T 0) → ⊥
zero_uncut T h =
    let none : (xs : List ℕ) → 2 ≤ length xs → AllByRecursion (λ s. s < 0) xs → ⊥ =
    elim [ [] ↦ λ l a. omega arith | x ∷ xs ↦ λ l a. omega (arith, a.0) ] in
    none (shares T 0) h (shares-below T 0 h)

weights-positive : (ws : List ℕ) → AllByRecursion (λ w. (1 ≤ w) × (w ≤ 1024)) ws → length ws ≤ sum ws
weights-positive [] h = omega arith
weights-positive (w ∷ ws) h = omega (arith, weights-positive ws h.1, sum-cons w ws)

-- the shares of a row within the limits add up to what is cut, few or many
sum-cut : (act : Act) (n : ℕ) → IsAct act → is_split act ≡ true → sum (shares_by act n) ≡ n
sum-cut act n h e = search (rules, weights-positive, sum-without_zeros, sum-split, mul-div_cancel)

act_in-IsAct : (rows : List Row) (n : ℕ) → AllByRecursion (λ row. IsAct row.act) rows → IsAct (act_in rows n)
act_in-IsAct [] n h = tt
act_in-IsAct (row ∷ rows) n h = elim (nat_le n row.upto) as (λ b. IsAct (cond b row.act (act_in rows n))) [
  | true ↦ h.0
  | false ↦ act_in-IsAct rows n h.1
]

pub cut : (T : Table) → IsTable T → (n : ℕ) → IsTrue (is_split (act T n)) → IsCut n (shares T n)
cut T t n e = grind (arith, shares_by-positive, sum-cut, act_in-IsAct, shares-below)

-- ---- rows

-- some row reaches n
served : (rows : List Row) (i n : ℕ) → i < length rows → n ≤ slice_index (map (λ row. row.upto) rows) i → HasRow rows n
served [] i n l h = absurd (omega arith)
served (row ∷ rows) i n l h =
    let either : (b : Bool) → nat_le n row.upto ≡ b → HasRow (row ∷ rows) n =
    elim [
      | true ↦
          λ e. ([], row, rows, refl, tt, leb-true n row.upto e, cond-true (nat_le n row.upto) row.act (act_in rows n) e)
      | false ↦ λ e.
          let past = leb-false n row.upto e in
          let later : (j : ℕ) → j < length (row ∷ rows) →
          n ≤ slice_index (map (λ r. r.upto) (row ∷ rows)) j → HasRow rows n =
          elim [ zero ↦ λ k m. absurd (omega arith) | suc j ↦ λ k m. served rows j n (omega arith) m ] in
          let found = later i l h in (
            row ∷ found.0,
            found.1,
            found.2,
            ap (λ rs. row ∷ rs) found.3,
            (past, found.4),
            found.5,
            cond-false (nat_le n row.upto) row.act (act_in rows n) e ∙ found.6,
          )
    ] in
    either (nat_le n row.upto) refl

length-uptos : (rows : List Row) → length (map (λ row. row.upto) rows) ≡ length rows
length-uptos [] = refl
length-uptos (row ∷ rows) = ap suc (length-uptos rows)

none_reach : (rows : List Row) → length rows ≡ 0 →
    slice_index (map (λ row. row.upto) rows) (length (map (λ row. row.upto) rows) - 1) ≡ 0
none_reach rows e = grind (arith, common_steps)

pub each_served : (T : Table) → IsTable T → (n : ℕ) → n ≤ T.cap → HasRow T.rows n
each_served T t n h =
    let some : 0 < length T.rows = grind (arith, none_reach T.rows, t.reach, t.cap_from) in
    served T.rows (length (uptos T) - 1) n (omega (arith, length-uptos T.rows)) (omega (arith, t.reach))

uptos-from_end : (T : Table) → IsTable T → (d j : ℕ) → j + d ≡ length (uptos T) - 1 → slice_index (uptos T) j ≤ T.cap
uptos-from_end T t zero j e = grind arith
uptos-from_end T t (suc d) j e = omega (arith, t.rise j (omega arith), uptos-from_end T t d (j + 1) (omega arith))

-- no row reaches past the cap
pub rows_within : (T : Table) → IsTable T → (k : ℕ) → k < length (uptos T) → slice_index (uptos T) k ≤ T.cap
rows_within T t k h = uptos-from_end T t (length (uptos T) - 1 - k) k (omega arith)

-- ---- counts that are not cut

pub many : (T : Table) (n : ℕ) → is_stuck T n ≡ false → IsTrue (is_split (act T n)) → 2 ≤ length (shares T n)
many T n e s = elim (and_cases (is_split (act T n)) (nat_lt (length (shares T n)) 2) e) [
  | inl uncut ↦ absurd (cc)
  | inr few ↦ ltb-false (length (shares T n)) 2 few
]

pub not_stuck : (T : Table) (n : ℕ) → (IsTrue (is_split (act T n)) → 2 ≤ length (shares T n)) → is_stuck T n ≡ false
not_stuck T n h = grind arith

-- ---- what was a field of `Accepted`

passes_after : (p : Row → Bool) (before : List Row) (row : Row) (after : List Row) → p row ≡ true →
    list_any p (before ++ row ∷ after) ≡ true
passes_after p [] row after e = or_left (p row) (list_any p after) e
passes_after p (r ∷ before) row after e =
    or_right (p r) (list_any p (before ++ row ∷ after)) (passes_after p before row after e)

pub covers : (T : Table) → IsTable T → list_any (λ row. nat_le T.cap row.upto) T.rows ≡ true
covers T t =
    let found = each_served T t T.cap (omega arith) in
    let here =
    passes_after (λ row. nat_le T.cap row.upto) found.0 found.1 found.2 (le-leb T.cap found.1.upto found.5) in
    ap (list_any (λ row. nat_le T.cap row.upto)) found.3 ∙ here
