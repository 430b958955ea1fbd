-- What the steps of a staircase alone tell: the loop that finds them, and the check.
-- The loop keeps the steps below the last count. They rank all counts so far, and are as many as the last rank. So the
-- next count is one step up exactly if the greatest rank of its shares is the last rank, which the steps alone decide.
-- It finds the staircase of the least ranks, or the first count that is stuck.
-- The first count that is too deep is the one after the entry at the rounds; so the check needs the steps alone.
-- Two lists that rise, end alike and give the same ranks are the same, so a staircase comes back from its ranks.
-- docs/LAWS.md: Ranks as a staircase; By the steps alone.
use Rattle.std.proofs.Common.{rules, ◌≡◌, ℕ, zero, suc, ◌+◌, ◌-◌, ◌<◌, ◌≤◌, Bool, true, false, List, [], ◌∷◌, ◌++◌}
use Rattle.std.proofs.Common.{length, refl, sym, ap, ◌∙◌, subst, arith, cond, inl, inr, Option, Some, None, max, ◌&&◌}
use Rattle.std.specs.Prelude.{slice_index, nat_lt, find, option_map}
use Rattle.definitions.proofs.Words.{AllByRecursion, range_with_len, IsStrictlyIncreasing, option_or, rank_by}
use Rattle.definitions.proofs.Words.{IsStaircase, staircase, ranks_by, above_all, next_rank, ranks_upto, least_ranks}
use Rattle.definitions.proofs.Words.{is_stuck, first_stuck, found, counts, deep_fault, CheckFault, Too_deep, first_fall}
use Rattle.definitions.proofs.Words.{steps_fault, check_fault, Table, shares, above_all_by, push_step, Climbing}
use Rattle.definitions.proofs.Words.{Stuck_at, At, climbing_next, climb_to, find_steps, deep_by_steps, check_by_steps}
use Rattle.definitions.proofs.Lemmas.{common_steps, cases_order, cases_lt, ltb-true, lt-ltb, le-ltb, cond-true}
use Rattle.definitions.proofs.Lemmas.{cond-false, and_from, and_left, and_right, length-map-range_with_len, fill_by_all}
use Rattle.definitions.proofs.Lemmas.{ext_get_or, All-map, range-at, none_found, All-range, find-none}
use Rattle.laws.specs.Ranks.{IsGradual}
use Rattle.laws.proofs.Checks.{rank_by-yes, rank_by-no, rank_by-rises, ranks_by-at, length-ranks_upto, ranks-same}
use Rattle.laws.proofs.Checks.{ranks-step, ranks-gradual, none_stuck}
use Rattle.laws.proofs.Tables.{shares-below, shares-none, many}
use Rattle.laws.proofs.Staircases.{Rises, Rises-IsStrictlyIncreasing, IsStrictlyIncreasing-Rises, rank_by-none}
use Rattle.laws.proofs.Staircases.{rank_by-gradual, rank_by-entry, rank_by-past, rises_in, steps_from-last}
use Rattle.laws.proofs.Staircases.{steps_from-Rises, staircase_IsStaircase, staircase_last, rank_by_staircase}

-- ==== The loop that keeps the steps alone finds the staircase of the least ranks, or the first count that is stuck

-- no count up to n is stuck
abbrev FreeUpto : Table → ℕ → Type 0
FreeUpto T n = (k : ℕ) → k ≤ n → is_stuck T k ≡ false

-- ---- the least ranks leave out no number

low : (T : Table) (n : ℕ) → is_stuck T n ≡ false → AllByRecursion (λ s. s < n) (shares T n)
low T n e = grind (arith, shares-below, many, shares-none)

pub ranks_upto-IsGradual : (T : Table) (n : ℕ) → ((k : ℕ) → k ≤ n → is_stuck T k ≡ false) → IsGradual (ranks_upto T n)
ranks_upto-IsGradual T n h = record {
  first = ranks-same T 0 n 0 (omega arith) (omega arith);
  steps = λ m l.
      let room : suc m ≤ n = omega (arith, length-ranks_upto T n) in
      let here = ranks-same T m n m (omega arith) (omega arith) in
      let there = ranks-same T (suc m) n (suc m) (omega arith) (omega arith) in
      let up = ranks-step T m in
      let by_one = ranks-gradual T m (low T (suc m) (h (suc m) (omega arith))) in
      (omega arith, omega arith);
}

pub least_ranks_are_gradual : (T : Table) → first_stuck T ≡ None → IsGradual (least_ranks T)
least_ranks_are_gradual T e = ranks_upto-IsGradual T T.cap (none_stuck T e)

-- ---- the steps below the last count

rises_in-below : (n r : ℕ) (rs : List ℕ) → AllByRecursion (λ s. s < n + length rs) (rises_in n (r ∷ rs))
rises_in-below n r [] = tt
rises_in-below n r (next ∷ rs) = grind (arith, rises_in-below (suc n) next rs, All-map, length)

rises_in-push : (n r : ℕ) (rs : List ℕ) (x : ℕ) →
    rises_in n ((r ∷ rs) ++ x ∷ [])
    ≡ rises_in n (r ∷ rs) ++ cond (nat_lt (slice_index (r ∷ rs) (length rs)) x) ((n + length rs) ∷ []) []
rises_in-push n r [] x = let e : n ≡ n + 0 = omega arith in ap (λ (k : ℕ). cond (nat_lt r x) (k ∷ []) []) e
rises_in-push n r (next ∷ rs) x = grind (arith, rises_in-push (suc n) next rs x, length)

push-at : (f : List ℕ) (n x : ℕ) → length f ≡ suc n →
    rises_in 0 (f ++ x ∷ []) ≡ rises_in 0 f ++ cond (nat_lt (slice_index f n) x) (n ∷ []) []
push-at f n x e = grind (arith, common_steps, rises_in-push)

below-at : (f : List ℕ) (n : ℕ) → length f ≡ suc n → AllByRecursion (λ s. s < n) (rises_in 0 f)
below-at [] n e = absurd (omega arith)
below-at (r ∷ rs) n e =
    All-map (λ s. s < 0 + length rs) (λ s. s < n) (λ s h. omega arith) (rises_in 0 (r ∷ rs)) (rises_in-below 0 r rs)

staircase-at : (f : List ℕ) (n : ℕ) → length f ≡ suc n → staircase f ≡ rises_in 0 f ++ n ∷ []
staircase-at [] n e = absurd (omega arith)
staircase-at (r ∷ rs) n e = let at : 0 + length rs ≡ n = omega arith in
    steps_from-last 0 r rs ∙ ap (λ (k : ℕ). rises_in 0 (r ∷ rs) ++ k ∷ []) at

rank_by-push : (xs : List ℕ) (y n : ℕ) → n ≤ y → rank_by (xs ++ y ∷ []) n ≡ rank_by xs n
rank_by-push [] y n h = rank_by-no y [] n h
rank_by-push (x ∷ xs) y n h = grind (arith, common_steps, rank_by-push xs y n h, cases_lt, rank_by-yes, rank_by-no)

rank_by-all : (xs : List ℕ) (n : ℕ) → AllByRecursion (λ s. s < n) xs → rank_by xs n ≡ length xs
rank_by-all [] n h = refl
rank_by-all (x ∷ xs) n h = rank_by-yes x xs n h.0 ∙ ap suc (rank_by-all xs n h.1)

-- they rank the counts so far
rank-at : (T : Table) (n m : ℕ) → FreeUpto T n → m ≤ n →
    rank_by (rises_in 0 (ranks_upto T n)) m ≡ slice_index (ranks_upto T n) m
rank-at T n m h l =
    let f : List ℕ = ranks_upto T n in
    let size = length-ranks_upto T n in
    sym (rank_by-push (rises_in 0 f) n m l) ∙ ap (λ (ss : List ℕ). rank_by ss m) (sym (staircase-at f n size))
    ∙ rank_by_staircase f (ranks_upto-IsGradual T n h) m (omega arith)

-- and are as many as the last rank
pub rises-many : (T : Table) (n : ℕ) → ((k : ℕ) → k ≤ n → is_stuck T k ≡ false) →
    length (rises_in 0 (ranks_upto T n)) ≡ slice_index (ranks_upto T n) n
rises-many T n h =
    sym (rank_by-all (rises_in 0 (ranks_upto T n)) n (below-at (ranks_upto T n) n (length-ranks_upto T n)))
    ∙ rank-at T n n h (omega arith)

above_all-same : (steps f xs : List ℕ) → AllByRecursion (λ s. rank_by steps s ≡ slice_index f s) xs →
    above_all_by steps xs ≡ above_all f xs
above_all-same steps f [] h = refl
above_all-same steps f (s ∷ ss) h = omega (arith, above_all-same steps f ss h.1)

-- the next step, by the rank of the next count
rises-next : (T : Table) (n : ℕ) →
    rises_in 0 (ranks_upto T (suc n)) ≡ rises_in 0 (ranks_upto T n)
    ++ cond (nat_lt (slice_index (ranks_upto T n) n) (next_rank T (ranks_upto T n) (suc n))) (n ∷ []) []
rises-next T n = push-at (ranks_upto T n) n (next_rank T (ranks_upto T n) (suc n)) (length-ranks_upto T n)

next_rank-is : (T : Table) (f : List ℕ) (n : ℕ) →
    next_rank T f (suc n) ≡ max (slice_index f n) (above_all f (shares T (suc n)))
next_rank-is T f n = let e : suc n - 1 ≡ n = omega arith in
    ap (λ (k : ℕ). max (slice_index f k) (above_all f (shares T (suc n)))) e

-- ---- one turn

push_step-is : (T : Table) (n : ℕ) → FreeUpto T (suc n) →
    push_step T n (rises_in 0 (ranks_upto T n)) ≡ rises_in 0 (ranks_upto T (suc n))
push_step-is T n h = search (rules, rises-many, next_rank-is, rises-next, above_all-same, All-map, rank-at, low)

-- ---- with the stuck counts

range-push : (a n j : ℕ) → a + n ≡ j → range_with_len a (suc n) ≡ range_with_len a n ++ j ∷ []
range-push a zero j e = let same : a ≡ j = omega arith in ap (λ (k : ℕ). k ∷ []) same
range-push a (suc n) j e = ap (λ (l : List ℕ). a ∷ l) (range-push (a + 1) n j (omega arith))

find-push : (p : ℕ → Bool) (xs : List ℕ) (y : ℕ) →
    find p (xs ++ y ∷ []) ≡ option_or (find p xs) (cond (p y) (Some y) None)
find-push p [] y = refl
find-push p (x ∷ xs) y = grind (arith, find-push p xs y)

abbrev outcome : Table → ℕ → Option ℕ → Climbing
outcome T n None = At (rises_in 0 (ranks_upto T n))
outcome T n (Some k) = Stuck_at k

climbing_next-is : (T : Table) (n : ℕ) (o : Option ℕ) → find (is_stuck T) (range_with_len 0 (suc n)) ≡ o →
    climbing_next T n (outcome T n o) ≡ outcome T (suc n) (option_or o (cond (is_stuck T (suc n)) (Some (suc n)) None))
climbing_next-is T n (Some k) e = refl
climbing_next-is T n None e =
    let none = none_found (is_stuck T) (range_with_len 0 (suc n)) e in
    let free : FreeUpto T n =
    λ k l. range-at (λ j. is_stuck T j ≡ false) 0 (suc n) none k (omega arith) (omega arith) in
    let step : is_stuck T (suc n) ≡ false →
    push_step T n (rises_in 0 (ranks_upto T n)) ≡ rises_in 0 (ranks_upto T (suc n)) =
    λ d. push_step-is T n (λ k l. grind arith) in
    let either : (b : Bool) → is_stuck T (suc n) ≡ b →
    cond b (Stuck_at (suc n)) (At (push_step T n (rises_in 0 (ranks_upto T n)))) ≡ outcome T (suc n) (cond b (Some (suc
    n)) None) =
    elim [ true ↦ λ d. refl | false ↦ λ d. ap At (step d) ] in
    either (is_stuck T (suc n)) refl

climb_to-is : (T : Table) (n : ℕ) → climb_to T n ≡ outcome T n (find (is_stuck T) (range_with_len 0 (suc n)))
climb_to-is T zero = elim (is_stuck T 0) as (λ b. cond b (Stuck_at 0) (At []) ≡ outcome T 0 (cond b (Some 0) None)) [
  | true ↦ refl
  | false ↦ refl
]
climb_to-is T (suc n) =
    let longer = ap (find (is_stuck T)) (range-push 0 (suc n) (suc n) (omega arith))
    ∙ find-push (is_stuck T) (range_with_len 0 (suc n)) (suc n) in
    ap (climbing_next T n) (climb_to-is T n) ∙ climbing_next-is T n (find (is_stuck T) (range_with_len 0 (suc n))) refl
    ∙ ap (outcome T (suc n)) (sym longer)

pub loop_finds : (T : Table) → find_steps T ≡ found T
loop_finds T = grind (arith, staircase-at, length-ranks_upto, climb_to-is)

-- ==== What a staircase alone tells: its ranks, the first count that is too deep, and whether it is one

-- the ranks come back from their staircase
pub ranks_by_staircase : (f : List ℕ) (cap : ℕ) → IsGradual f → length f ≡ cap + 1 → ranks_by (staircase f) cap ≡ f
ranks_by_staircase f cap g e =
    sym (fill_by_all (rank_by (staircase f)) f (cap + 1) 0 e (λ k l. sym (rank_by_staircase f g k (omega arith))))

-- ---- the first count that is too deep

find-first : (p : ℕ → Bool) (a n k : ℕ) → a ≤ k → k < a + n → p k ≡ true → ((j : ℕ) → a ≤ j → j < k → p j ≡ false) →
    find p (range_with_len a n) ≡ Some k
find-first p a zero k l m e h = absurd (omega arith)
find-first p a (suc n) k l m e h = elim (cases_order a k) [
  | inl same ↦ grind arith
  | inr other ↦ elim other [
    | inl below ↦ cond-false (p a) (Some a) (find p (range_with_len (a + 1) n)) (h a (omega arith) below)
        ∙ find-first p (a + 1) n k (omega arith) (omega arith) e (λ j b c. h j (omega arith) c)
    | inr above ↦ absurd (omega arith)
  ]
]

few-below : (xs : List ℕ) (r n : ℕ) → length xs ≤ r → rank_by xs n ≤ r
few-below [] r n h = omega arith
few-below (x ∷ xs) r n h =
    grind (arith, common_steps, few-below xs (r - 1) n (omega arith), cases_lt, rank_by-yes, rank_by-no)

-- ranks up to j where entry j is not below n
not_past : (xs : List ℕ) (j n : ℕ) → Rises xs → j < length xs → n ≤ slice_index xs j → rank_by xs n ≤ j
not_past xs j n r l h = omega (arith, rank_by-rises xs n (slice_index xs j) h, rank_by-entry xs j r l)

pub too_deep_by_steps : (T : Table) (steps : List ℕ) → IsStrictlyIncreasing steps →
    deep_fault T (ranks_by steps T.cap) ≡ deep_by_steps T.cap T.rounds steps
too_deep_by_steps T steps h =
    let rises = IsStrictlyIncreasing-Rises steps h in
    let f : List ℕ = ranks_by steps T.cap in
    let r : ℕ = T.rounds in
    let p : ℕ → Bool = λ n. nat_lt r (slice_index f n) in
    let q : Bool = nat_lt r (length steps) in
    let s : Bool = nat_lt (slice_index steps r) T.cap in
    let name : Option ℕ → Option CheckFault = option_map (λ n. Too_deep n (slice_index f n)) in
    let none : ((n : ℕ) → n ≤ T.cap → rank_by steps n ≤ r) → find p (counts T) ≡ None =
    λ low. find-none p (counts T) (All-range (λ k. p k ≡ false) 0 (T.cap + 1) (λ k a b.
    le-ltb r (slice_index f k) (omega (arith, low k (omega arith), ranks_by-at steps T.cap k (omega arith))))) in
    elim (cases_lt r (length steps)) [
      | inl long ↦ elim (cases_lt (slice_index steps r) T.cap) [
        | inl within ↦
            let n : ℕ = slice_index steps r + 1 in
            let at : rank_by steps n ≡ r + 1 =
            let on : suc (slice_index steps r) ≡ n = omega arith in
            let up = subst (λ (k : ℕ). rank_by steps k ≤ rank_by steps (slice_index steps r) + 1) on
            (rank_by-gradual steps (slice_index steps r) rises) in
            omega (arith, rank_by-past steps r n rises long (omega arith), rank_by-entry steps r rises long) in
            let is = ranks_by-at steps T.cap n (omega arith) in
            let found : find p (counts T) ≡ Some n =
            find-first p 0 (T.cap + 1) n (omega arith) (omega arith) (lt-ltb r (slice_index f n) (omega arith))
            (λ j a b. le-ltb r (slice_index f j)
            (omega (arith, not_past steps r j rises long (omega arith), ranks_by-at steps T.cap j (omega arith)))) in
            let same : slice_index f n ≡ r + 1 = omega arith in
            ap name found ∙ ap (λ (k : ℕ). Some (Too_deep n k)) same
            ∙ sym (cond-true (q && s) (Some (Too_deep n (r + 1))) None
            (and_from q s (lt-ltb r (length steps) long) (lt-ltb (slice_index steps r) T.cap within)))
        | inr past ↦ ap name (none (λ n l. not_past steps r n rises long (omega arith)))
            ∙ sym (cond-false (q && s) (Some (Too_deep (slice_index steps r + 1) (r + 1))) None
            (and_right q s (le-ltb (slice_index steps r) T.cap past)))
      ]
      | inr short ↦ ap name (none (λ n l. few-below steps r n short))
          ∙ sym (cond-false (q && s) (Some (Too_deep (slice_index steps r + 1) (r + 1))) None
          (and_left q s (le-ltb r (length steps) short)))
    ]

pub least_too_deep : (T : Table) → first_stuck T ≡ None →
    deep_fault T (least_ranks T) ≡ deep_by_steps T.cap T.rounds (staircase (least_ranks T))
least_too_deep T e =
    let size : length (least_ranks T) ≡ T.cap + 1 = omega (arith, length-ranks_upto T T.cap) in
    ap (deep_fault T) (sym (ranks_by_staircase (least_ranks T) T.cap (least_ranks_are_gradual T e) size))
    ∙ too_deep_by_steps T (staircase (least_ranks T))
    (Rises-IsStrictlyIncreasing (staircase (least_ranks T)) (steps_from-Rises 0 (least_ranks T)))

-- ---- whether a list of numbers is a staircase

first_fall-Rises : (b : ℕ) (steps : List ℕ) → first_fall b steps ≡ None → Rises (b ∷ steps)
first_fall-Rises b [] e = (tt, tt)
first_fall-Rises b (s ∷ ss) e =
    let go : (c : Bool) → nat_lt b s ≡ c → cond c (first_fall s ss) (Some s) ≡ None → Rises (b ∷ s ∷ ss) = elim [
      | true ↦ λ d k. grind (arith, first_fall-Rises s ss k, ltb-true, All-map)
      | false ↦ λ d k. absurd (cc)
    ] in
    go (nat_lt b s) refl e

Rises-first_fall : (b : ℕ) (steps : List ℕ) → Rises (b ∷ steps) → first_fall b steps ≡ None
Rises-first_fall b [] r = refl
Rises-first_fall b (s ∷ ss) r =
    cond-true (nat_lt b s) (first_fall s ss) (Some s) (lt-ltb b s r.0.0) ∙ Rises-first_fall s ss r.1

pub no_steps_fault : (steps : List ℕ) → steps_fault steps ≡ None → IsStaircase steps
no_steps_fault steps e = search (rules, Rises-IsStrictlyIncreasing, first_fall-Rises)

pub staircase_no_fault : (steps : List ℕ) → IsStaircase steps → steps_fault steps ≡ None
staircase_no_fault [] h = absurd (omega (arith, h.not_empty))
staircase_no_fault (s ∷ ss) h = Rises-first_fall s ss (IsStrictlyIncreasing-Rises (s ∷ ss) h.rises)

-- ---- and back

below_last : (x : ℕ) (xs : List ℕ) → Rises (x ∷ xs) → (j : ℕ) → j ≤ length xs →
    slice_index (x ∷ xs) j ≤ slice_index (x ∷ xs) (length xs)
below_last x [] r zero h = omega arith
below_last x [] r (suc j) h = absurd (omega arith)
below_last x (y ∷ ys) r zero h = omega (arith, below_last y ys r.1 0 (omega arith))
below_last x (y ∷ ys) r (suc j) h = below_last y ys r.1 j (omega arith)

within_last : (xs : List ℕ) → Rises xs → (j : ℕ) → j < length xs → slice_index xs j ≤ slice_index xs (length xs - 1)
within_last [] r j h = absurd (omega arith)
within_last (x ∷ xs) r j h = let e : length xs ≡ length (x ∷ xs) - 1 = omega arith in
    subst (λ (k : ℕ). slice_index (x ∷ xs) j ≤ slice_index (x ∷ xs) k) e (below_last x xs r j (omega arith))

-- lists that rise, end alike and give the same ranks up to there are the same
same_steps : (xs ys : List ℕ) (cap : ℕ) → Rises xs → Rises ys → 0 < length xs → 0 < length ys →
    slice_index xs (length xs - 1) ≡ cap → slice_index ys (length ys - 1) ≡ cap →
    ((n : ℕ) → n ≤ cap → rank_by xs n ≡ rank_by ys n) → xs ≡ ys
same_steps xs ys cap p q a b c d h =
    let endx = subst (λ (k : ℕ). rank_by xs k ≡ length xs - 1) c (rank_by-entry xs (length xs - 1) p (omega arith)) in
    let endy = subst (λ (k : ℕ). rank_by ys k ≡ length ys - 1) d (rank_by-entry ys (length ys - 1) q (omega arith)) in
    let long : length xs ≡ length ys = omega (arith, h cap (omega arith)) in
    ext_get_or 0 xs ys long (λ j l. elim (cases_order (slice_index xs j) (slice_index ys j)) [
      | inl e ↦ e
      | inr other ↦ elim other [
        | inl below ↦ absurd (omega (
          arith,
          rank_by-past xs j (slice_index ys j) p l below,
          rank_by-entry ys j q (omega arith),
          h (slice_index ys j) (omega (arith, within_last ys q j (omega arith))),
        ))
        | inr above ↦ absurd (omega (
          arith,
          rank_by-past ys j (slice_index xs j) q (omega arith) above,
          rank_by-entry xs j p l,
          h (slice_index xs j) (omega (arith, within_last xs p j l)),
        ))
      ]
    ])

zeros : (xs : List ℕ) → AllByRecursion (λ y. 0 ≤ y) xs
zeros [] = tt
zeros (x ∷ xs) = (omega arith, zeros xs)

pub ranks_by-IsGradual : (steps : List ℕ) (cap : ℕ) → IsStrictlyIncreasing steps → IsGradual (ranks_by steps cap)
ranks_by-IsGradual steps cap h = record {
  first = ranks_by-at steps cap 0 (omega arith) ∙ rank_by-none steps 0 (zeros steps);
  steps = λ n l.
      let room : suc n ≤ cap = omega (arith, length-map-range_with_len (rank_by steps) 0 (cap + 1)) in
      let here = ranks_by-at steps cap n (omega arith) in
      let there = ranks_by-at steps cap (suc n) room in
      let up = rank_by-rises steps n (suc n) (omega arith) in
      let by_one = rank_by-gradual steps n (IsStrictlyIncreasing-Rises steps h) in
      (omega arith, omega arith);
}

-- a staircase that ends at the cap comes back from its ranks
pub staircase_ranks_by : (steps : List ℕ) (cap : ℕ) → IsStaircase steps → slice_index steps (length steps - 1) ≡ cap →
    staircase (ranks_by steps cap) ≡ steps
staircase_ranks_by steps cap h e =
    let f : List ℕ = ranks_by steps cap in
    let size : length f ≡ cap + 1 = length-map-range_with_len (rank_by steps) 0 (cap + 1) in
    let made = staircase_IsStaircase f (omega arith) in
    let g = ranks_by-IsGradual steps cap h.rises in
    same_steps (staircase f) steps cap (steps_from-Rises 0 f)
    (IsStrictlyIncreasing-Rises steps h.rises) made.not_empty h.not_empty
    (omega (arith, staircase_last f (omega arith))) e
    (λ n l. rank_by_staircase f g n (omega arith) ∙ ranks_by-at steps cap n l)

-- ---- the check, by what the loop answers

pub check_by_the_steps : (T : Table) → check_fault T ≡ check_by_steps T
check_by_the_steps T = grind (arith, least_too_deep, loop_finds)
