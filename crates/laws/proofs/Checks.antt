-- The least rank table, and what a check answers.
-- The ranks are found count by count, each from the ones before: the greater of the last rank and one more than the
-- greatest rank of a share. A rank stays as it was found. So they do not fall, and if no count is stuck, each share is
-- smaller than its count and has a rank below it: they are a rank table. They leave out no number, since one more than
-- the rank of a smaller count is at most one more than the last rank. By induction on the count no rank table is below
-- them anywhere. If there is a rank table, no count is stuck, since it asks for two shares or more of each count that
-- is split.
-- The checks by computation say what the definitions say: no list row past the limit, no stuck count, no rank above
-- the rounds. If some rank table keeps to the rounds, the least one does.
-- A staircase that is brought serves if each count up to the cap has a rank in it that its shares are below. Then the
-- ranks by it are a rank table, so the table is to be accepted.
-- docs/LAWS.md: The least rank table; What the checker says; A staircase that is brought.
use Rattle.std.proofs.Common.{rules, ◌≡◌, ℕ, zero, suc, ◌+◌, ◌-◌, ◌<◌, ◌≤◌, false, None, List, [], ◌∷◌, length, refl}
use Rattle.std.proofs.Common.{sym, ap, ◌∙◌, subst, arith, max, inl, inr, length-append, Bool, not, ◌||◌, cond}
use Rattle.std.specs.Prelude.{slice_index, IsTrue, nat_lt, nat_le, option_map}
use Rattle.definitions.proofs.Words.{AllByRecursion, list_all, list_any, option_or, Table, act, shares, is_split}
use Rattle.definitions.proofs.Words.{Descends, IsRankTable, IsLeastRankTable, above_all, next_rank, ranks_upto}
use Rattle.definitions.proofs.Words.{least_ranks, counts, is_stuck, first_stuck, Accepted, keeps_limit, first_long}
use Rattle.definitions.proofs.Words.{first_deep, List_too_long, No_descent, Too_deep, Bad_certificate, deep_fault}
use Rattle.definitions.proofs.Words.{check_fault, rank_by, ranks_by, is_unfit, first_unfit, check_with_fault, IsServing}
use Rattle.definitions.proofs.Lemmas.{common_steps, cases_order, cases_Bool, cases_lt, not_from_true, not-false}
use Rattle.definitions.proofs.Lemmas.{leb-true, leb-false, ltb-false, le-leb, lt-leb, lt-ltb, le-ltb, or_parts, or_from}
use Rattle.definitions.proofs.Lemmas.{get_or-append, get_or-append_seam, sum_by-cons, get_or-map-range_with_len}
use Rattle.definitions.proofs.Lemmas.{length-map-range_with_len, All-map, All-both, All-range, range-at, none_found}
use Rattle.definitions.proofs.Lemmas.{find-none, list_any-none, none_passes, list_all-from_All, All-from_list_all}
use Rattle.definitions.proofs.Lemmas.{or_none, none_or, map_none, none_map}
use Rattle.laws.proofs.Tables.{shares-below, shares-none, zero_uncut, many, not_stuck}

-- ==== The least ranks are the least rank table, where no count is stuck

-- ---- one more than the greatest

pub above_all-each : (f xs : List ℕ) (k : ℕ) → above_all f xs ≤ k → AllByRecursion (λ s. slice_index f s < k) xs
above_all-each f [] k h = tt
above_all-each f (s ∷ ss) k h = (omega arith, above_all-each f ss k (omega arith))

pub above_all-least : (f xs : List ℕ) (k : ℕ) → AllByRecursion (λ s. slice_index f s < k) xs → above_all f xs ≤ k
above_all-least f [] k h = omega arith
above_all-least f (s ∷ ss) k h = omega (arith, above_all-least f ss k h.1)

-- ---- the ranks, count by count

pub length-ranks_upto : (T : Table) (n : ℕ) → length (ranks_upto T n) ≡ suc n
length-ranks_upto T zero = refl
length-ranks_upto T (suc n) =
    omega (arith, length-ranks_upto T n, length-append (ranks_upto T n) (next_rank T (ranks_upto T n) (suc n) ∷ []))

-- a rank stays as it was found
pub ranks-keep : (T : Table) (n m : ℕ) → m ≤ n → slice_index (ranks_upto T (suc n)) m ≡ slice_index (ranks_upto T n) m
ranks-keep T n m h = get_or-append (ranks_upto T n) (next_rank T (ranks_upto T n) (suc n) ∷ []) 0 m
    (omega (arith, length-ranks_upto T n))

pub ranks-next : (T : Table) (n : ℕ) →
    slice_index (ranks_upto T (suc n)) (suc n)
    ≡ max (slice_index (ranks_upto T n) n) (above_all (ranks_upto T n) (shares T (suc n)))
ranks-next T n =
    let seam = get_or-append_seam (ranks_upto T n) (next_rank T (ranks_upto T n) (suc n)) [] 0 in
    let at = subst (λ (k : ℕ). slice_index (ranks_upto T (suc n)) k ≡ next_rank T (ranks_upto T n) (suc n))
    (length-ranks_upto T n) seam in
    let before : suc n - 1 ≡ n = omega arith in
    at ∙ ap (λ (k : ℕ). max (slice_index (ranks_upto T n) k) (above_all (ranks_upto T n) (shares T (suc n)))) before

-- the ranks up to n are those up to any later count
pub ranks-later : (T : Table) (d n m : ℕ) → m ≤ n →
    slice_index (ranks_upto T (d + n)) m ≡ slice_index (ranks_upto T n) m
ranks-later T zero n m h = let same : 0 + n ≡ n = omega arith in ap (λ (k : ℕ). slice_index (ranks_upto T k) m) same
ranks-later T (suc d) n m h =
    let same : suc d + n ≡ suc (d + n) = omega arith in
    ap (λ (k : ℕ). slice_index (ranks_upto T k) m) same ∙ ranks-keep T (d + n) m (omega arith) ∙ ranks-later T d n m h

pub ranks-same : (T : Table) (n k m : ℕ) → m ≤ n → n ≤ k →
    slice_index (ranks_upto T k) m ≡ slice_index (ranks_upto T n) m
ranks-same T n k m h l = let same : k ≡ (k - n) + n = omega arith in
    ap (λ (j : ℕ). slice_index (ranks_upto T j) m) same ∙ ranks-later T (k - n) n m h

-- they do not fall
pub ranks-step : (T : Table) (n : ℕ) → slice_index (ranks_upto T n) n ≤ slice_index (ranks_upto T (suc n)) (suc n)
ranks-step T n = omega (arith, ranks-next T n)

pub ranks-rise : (T : Table) (k n m : ℕ) → m ≤ n → n ≤ k →
    slice_index (ranks_upto T k) m ≤ slice_index (ranks_upto T k) n
ranks-rise T k zero m h l = let none : m ≡ 0 = omega arith in
    subst (λ (i : ℕ). slice_index (ranks_upto T k) i ≤ slice_index (ranks_upto T k) 0) (sym none) (omega arith)
ranks-rise T k (suc n) m h l = elim (cases_order m (suc n)) [
  | inl e ↦
      subst (λ (i : ℕ). slice_index (ranks_upto T k) i ≤ slice_index (ranks_upto T k) (suc n)) (sym e) (omega arith)
  | inr other ↦ grind (arith, ranks-rise T k n m (omega arith) (omega arith), ranks-step, ranks-same)
]

-- nor leave out a number
pub ranks-gradual : (T : Table) (n : ℕ) → AllByRecursion (λ s. s < suc n) (shares T (suc n)) →
    slice_index (ranks_upto T (suc n)) (suc n) ≤ slice_index (ranks_upto T n) n + 1
ranks-gradual T n h =
    let f : List ℕ = ranks_upto T n in
    let top = above_all-least f (shares T (suc n)) (slice_index f n + 1)
    (All-map (λ s. s < suc n) (λ s. slice_index f s < slice_index f n + 1)
    (λ s l. omega (arith, ranks-rise T n n s (omega arith) (omega arith))) (shares T (suc n)) h) in
    omega (arith, ranks-next T n)

-- ---- a rank table

ranks-descend : (T : Table) (k n : ℕ) → n ≤ k → (IsTrue (is_split (act T n)) → 2 ≤ length (shares T n)) →
    Descends T (ranks_upto T k) n
ranks-descend T k zero l h = λ s. absurd (zero_uncut T (h s))
ranks-descend T k (suc n) l h = λ s.
    let two = h s in
    let low = shares-below T (suc n) two in
    let f : List ℕ = ranks_upto T n in
    let r : ℕ = slice_index (ranks_upto T (suc n)) (suc n) in
    let next = ranks-next T n in
    let under = above_all-each f (shares T (suc n)) r (omega arith) in (
      two,
      All-both (λ m. m < suc n) (λ m. slice_index f m < r)
          (λ m. slice_index (ranks_upto T k) m < slice_index (ranks_upto T k) (suc n))
          (λ m a b. omega (
            arith,
            ranks-same T n k m (omega arith) (omega arith),
            ranks-same T (suc n) k (suc n) (omega arith) (omega arith),
          )) (shares T (suc n)) low under,
    )

pub least_ranks-IsRankTable : (T : Table) → ((n : ℕ) → n ≤ T.cap → is_stuck T n ≡ false) → IsRankTable T (least_ranks T)
least_ranks-IsRankTable T h = search (rules, length-ranks_upto, ranks-rise, ranks-descend, many)

-- no rank table is below it
pub ranks-least : (T : Table) (g : List ℕ) → IsRankTable T g → (n : ℕ) → n ≤ T.cap → (m : ℕ) → m ≤ n →
    slice_index (ranks_upto T n) m ≤ slice_index g m
ranks-least T g r zero l m h = let none : m ≡ 0 = omega arith in
    subst (λ (i : ℕ). slice_index (0 ∷ []) i ≤ slice_index g i) (sym none) (omega arith)
ranks-least T g r (suc n) l m h =
    let ih = ranks-least T g r n (omega arith) in
    let f : List ℕ = ranks_upto T n in
    elim (cases_order m (suc n)) [
      | inl e ↦
          let top : above_all f (shares T (suc n)) ≤ slice_index g (suc n) =
          grind (arith, cases_Bool, above_all-least, All-both, shares-below, shares-none) in
          subst (λ (i : ℕ). slice_index (ranks_upto T (suc n)) i ≤ slice_index g i) (sym e)
          (omega (arith, ranks-next T n, ih n (omega arith), r.rises n (suc n) (omega arith) l))
      | inr other ↦ elim other [
        | inl below ↦ omega (arith, ranks-keep T n m (omega arith), ih m (omega arith))
        | inr above ↦ absurd (omega arith)
      ]
    ]

pub none_stuck : (T : Table) → first_stuck T ≡ None → (n : ℕ) → n ≤ T.cap → is_stuck T n ≡ false
none_stuck T e n h = range-at (λ k. is_stuck T k ≡ false) 0 (T.cap + 1) (none_found (is_stuck T) (counts T) e) n
    (omega arith) (omega arith)

pub first_stuck-none : (T : Table) → ((n : ℕ) → n ≤ T.cap → is_stuck T n ≡ false) → first_stuck T ≡ None
first_stuck-none T h =
    find-none (is_stuck T) (counts T) (All-range (λ k. is_stuck T k ≡ false) 0 (T.cap + 1) (λ k a b. h k (omega arith)))

pub least : (T : Table) → first_stuck T ≡ None → IsLeastRankTable T (least_ranks T)
least T e = record {
  ranks = least_ranks-IsRankTable T (none_stuck T e);
  least = λ g r n h. ranks-least T g r T.cap (omega arith) n h;
}

-- where there is a rank table no count is stuck
pub ranked : (T : Table) (f : List ℕ) → IsRankTable T f → first_stuck T ≡ None
ranked T f r = first_stuck-none T (λ n h. not_stuck T n (λ s. (r.descends n h s).0))

-- ==== The checks by computation say what the definitions say

-- ---- lists

pub lists_fit : (T : Table) → first_long T ≡ None → IsTrue (list_all (keeps_limit T.limit) T.rows)
lists_fit T e = search (rules, none_found, map_none, list_all-from_All, All-map, not-false)

pub none_long : (T : Table) → IsTrue (list_all (keeps_limit T.limit) T.rows) → first_long T ≡ None
none_long T h = search (rules, All-from_list_all, not, find-none, All-map, not_from_true)

-- ---- depth

none_deep : (T : Table) (f : List ℕ) → ((n : ℕ) → n ≤ T.cap → slice_index f n ≤ T.rounds) → deep_fault T f ≡ None
none_deep T f h =
    none_map (λ n. Too_deep n (slice_index f n)) (first_deep T f)
    (find-none (λ n. nat_lt T.rounds (slice_index f n)) (counts T) (All-range (λ n. nat_lt T.rounds (slice_index f n)
    ≡ false) 0 (T.cap + 1) (λ k a b. le-ltb T.rounds (slice_index f k) (h k (omega arith)))))

not_deep : (T : Table) (f : List ℕ) → deep_fault T f ≡ None → slice_index f T.cap ≤ T.rounds
not_deep T f e =
    let none = none_found (λ n. nat_lt T.rounds (slice_index f n)) (counts T)
    (map_none (λ n. Too_deep n (slice_index f n)) (first_deep T f) e) in
    ltb-false T.rounds (slice_index f T.cap)
    (range-at (λ n. nat_lt T.rounds (slice_index f n) ≡ false) 0 (T.cap + 1) none T.cap (omega arith) (omega arith))

-- ---- the check

pub accepted : (T : Table) → check_fault T ≡ None → Accepted T
accepted T e =
    let first = or_none List_too_long (first_long T)
    (option_or (option_map No_descent (first_stuck T)) (deep_fault T (least_ranks T))) e in
    let second = or_none No_descent (first_stuck T) (deep_fault T (least_ranks T)) first.1 in
    record {
      lists = lists_fit T first.0;
      ranks = (least_ranks T, (least T second.0).ranks, not_deep T (least_ranks T) second.1);
    }

pub no_fault : (T : Table) → Accepted T → check_fault T ≡ None
no_fault T a =
    let f : List ℕ = a.ranks.0 in
    let table : IsRankTable T f = a.ranks.1 in
    let stuck = ranked T f table in
    let mine = least T stuck in
    none_or List_too_long (first_long T)
    (option_or (option_map No_descent (first_stuck T)) (deep_fault T (least_ranks T))) (none_long T a.lists)
    (none_or No_descent (first_stuck T) (deep_fault T (least_ranks T)) stuck
    (none_deep T (least_ranks T) (λ n h. omega (arith, mine.least f table n h, table.rises n T.cap h (omega arith)))))

-- ---- a staircase that was brought

rank_by-cons : (s : ℕ) (ss : List ℕ) (n : ℕ) → rank_by (s ∷ ss) n ≡ cond (nat_lt s n) 1 0 + rank_by ss n
rank_by-cons s ss n = sum_by-cons (λ step. cond (nat_lt step n) 1 0) s ss

pub rank_by-yes : (s : ℕ) (ss : List ℕ) (n : ℕ) → s < n → rank_by (s ∷ ss) n ≡ suc (rank_by ss n)
rank_by-yes s ss n h = let e = ap (λ (b : Bool). cond b 1 0 + rank_by ss n) (lt-ltb s n h) in
    rank_by-cons s ss n ∙ e ∙ omega arith

pub rank_by-no : (s : ℕ) (ss : List ℕ) (n : ℕ) → n ≤ s → rank_by (s ∷ ss) n ≡ rank_by ss n
rank_by-no s ss n h = let e = ap (λ (b : Bool). cond b 1 0 + rank_by ss n) (le-ltb s n h) in
    rank_by-cons s ss n ∙ e ∙ omega arith

pub rank_by-rises : (ss : List ℕ) (m n : ℕ) → m ≤ n → rank_by ss m ≤ rank_by ss n
rank_by-rises [] m n h = omega arith
rank_by-rises (s ∷ ss) m n h = grind (arith, common_steps, rank_by-rises ss m n h, cases_lt, rank_by-yes, rank_by-no)

pub ranks_by-at : (steps : List ℕ) (cap n : ℕ) → n ≤ cap → slice_index (ranks_by steps cap) n ≡ rank_by steps n
ranks_by-at steps cap n h = get_or-map-range_with_len (rank_by steps) 0 (cap + 1) n n 0 (omega arith) (omega arith)

serves : (T : Table) (steps : List ℕ) (n : ℕ) → n ≤ T.cap → is_unfit T steps n ≡ false →
    (n ≤ slice_index steps (length steps - 1)) × Descends T (ranks_by steps T.cap) n
serves T steps n h e =
    let low : Bool = list_any (λ s. nat_le (rank_by steps n) (rank_by steps s)) (shares T n) in
    let past : Bool = not (nat_le n (slice_index steps (length steps - 1))) in
    let outer = or_parts (past || is_stuck T n) low e in
    let inner = or_parts past (is_stuck T n) outer.0 in
    let falls = none_passes (λ s. nat_le (rank_by steps n) (rank_by steps s)) (shares T n) outer.1 in (
      leb-true n (slice_index steps (length steps - 1))
          (not-false (nat_le n (slice_index steps (length steps - 1))) inner.0),
      λ s. let two = many T n inner.1 s in (
        two,
        All-both (λ m. m < n) (λ m. nat_le (rank_by steps n) (rank_by steps m) ≡ false)
            (λ m. slice_index (ranks_by steps T.cap) m < slice_index (ranks_by steps T.cap) n)
            (λ m a b. omega (
              arith,
              leb-false (rank_by steps n) (rank_by steps m) b,
              ranks_by-at steps T.cap m (omega arith),
              ranks_by-at steps T.cap n h,
            )) (shares T n) (shares-below T n two) falls,
      ),
    )

fits : (T : Table) (steps : List ℕ) (n : ℕ) → n ≤ T.cap → n ≤ slice_index steps (length steps - 1) →
    Descends T (ranks_by steps T.cap) n → is_unfit T steps n ≡ false
fits T steps n h k d =
    let low : Bool = list_any (λ s. nat_le (rank_by steps n) (rank_by steps s)) (shares T n) in
    let each : AllByRecursion (λ m. nat_le (rank_by steps n) (rank_by steps m) ≡ false) (shares T n) =
    elim (cases_Bool (is_split (act T n))) [
      | inl s ↦ All-both (λ m. m < n) (λ m. slice_index (ranks_by steps T.cap) m < slice_index (ranks_by steps T.cap) n)
          (λ m. nat_le (rank_by steps n) (rank_by steps m) ≡ false)
          (λ m a b. lt-leb (rank_by steps n) (rank_by steps m)
          (omega (arith, ranks_by-at steps T.cap m (omega arith), ranks_by-at steps T.cap n h))) (shares T n)
          (shares-below T n (d s).0) (d s).1
      | inr s ↦ subst (λ (xs : List ℕ). AllByRecursion (λ m. nat_le (rank_by steps n) (rank_by steps m) ≡ false) xs)
          (sym (shares-none (act T n) n s)) tt
    ] in
    let past : Bool = not (nat_le n (slice_index steps (length steps - 1))) in
    or_from (past || is_stuck T n) low
    (or_from past (is_stuck T n) (not_from_true (nat_le n (slice_index steps (length steps - 1)))
    (le-leb n (slice_index steps (length steps - 1)) k)) (not_stuck T n (λ s. (d s).0)))
    (list_any-none (λ s. nat_le (rank_by steps n) (rank_by steps s)) (shares T n) each)

pub serving : (T : Table) (steps : List ℕ) → first_unfit T steps ≡ None → IsServing T steps
serving T steps e =
    let none = none_found (is_unfit T steps) (counts T) e in
    let at : (n : ℕ) → n ≤ T.cap → is_unfit T steps n ≡ false =
    λ n h. range-at (λ k. is_unfit T steps k ≡ false) 0 (T.cap + 1) none n (omega arith) (omega arith) in
    record {
      reaches = (serves T steps T.cap (omega arith) (at T.cap (omega arith))).0;
      ranks = record {
        size = length-map-range_with_len (rank_by steps) 0 (T.cap + 1);
        rises = λ m n h k. omega
            (arith, rank_by-rises steps m n h, ranks_by-at steps T.cap m (omega arith), ranks_by-at steps T.cap n k);
        descends = λ n h. (serves T steps n h (at n h)).1;
      };
    }

pub none_unfit : (T : Table) (steps : List ℕ) → IsServing T steps → first_unfit T steps ≡ None
none_unfit T steps s =
    let reach = s.reaches in
    find-none (is_unfit T steps) (counts T) (All-range (λ k. is_unfit T steps k ≡ false) 0 (T.cap + 1)
    (λ k a b. fits T steps k (omega arith) (omega arith) (s.ranks.descends k (omega arith))))

pub accepted_with : (T : Table) (steps : List ℕ) → check_with_fault T steps ≡ None →
    IsTrue (list_all (keeps_limit T.limit) T.rows) × IsServing T steps × (rank_by steps T.cap ≤ T.rounds)
accepted_with T steps e =
    let first = or_none List_too_long (first_long T)
    (option_or (option_map Bad_certificate (first_unfit T steps)) (deep_fault T (ranks_by steps T.cap))) e in
    let second = or_none Bad_certificate (first_unfit T steps) (deep_fault T (ranks_by steps T.cap)) first.1 in (
      lists_fit T first.0,
      serving T steps second.0,
      omega (arith, not_deep T (ranks_by steps T.cap) second.1, ranks_by-at steps T.cap T.cap (omega arith)),
    )

pub no_fault_with : (T : Table) (steps : List ℕ) → IsTrue (list_all (keeps_limit T.limit) T.rows) → IsServing T steps →
    rank_by steps T.cap ≤ T.rounds →
    check_with_fault T steps ≡ None
no_fault_with T steps l s h =
    none_or List_too_long (first_long T)
    (option_or (option_map Bad_certificate (first_unfit T steps)) (deep_fault T (ranks_by steps T.cap))) (none_long T l)
    (none_or Bad_certificate (first_unfit T steps) (deep_fault T (ranks_by steps T.cap)) (none_unfit T steps s)
    (none_deep T (ranks_by steps T.cap)
    (λ n k. omega (arith, ranks_by-at steps T.cap n k, rank_by-rises steps n T.cap k))))

pub check_with_accepts : (T : Table) (steps : List ℕ) → check_with_fault T steps ≡ None → Accepted T
check_with_accepts T steps e = grind (arith, accepted_with T steps e, ranks_by-at steps T.cap T.cap (omega arith))
