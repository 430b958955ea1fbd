-- Ranks that are kept as a staircase.
-- The staircase of a list of ranks has each count after which the rank rises, and the last count. It rises whatever
-- the ranks are. The rank by it of n is the number of entries below n. If ranks begin at 0 and leave out no number,
-- each entry is one step up, so that number is the rank: the ranks come back, and only such ranks do. Entry j is then
-- the greatest count of rank at most j. Ranks that leave out numbers are packed by their staircase: lower ranks stay
-- lower, so it still serves.
-- docs/LAWS.md: Ranks as a staircase; A staircase that is brought (`ranks_are_packed`).
use Rattle.std.proofs.Common.{rules, ◌≡◌, ℕ, zero, suc, ◌+◌, ◌-◌, ◌<◌, ◌≤◌, Bool, true, false, List, [], ◌∷◌, ◌++◌}
use Rattle.std.proofs.Common.{length, refl, sym, ap, ◌∙◌, subst, arith, cond, inl, inr, length-append}
use Rattle.std.specs.Prelude.{slice_index, nat_lt}
use Rattle.definitions.proofs.Words.{AllByRecursion, IsStrictlyIncreasing, rank_by, IsStaircase, steps_from, staircase}
use Rattle.definitions.proofs.Words.{IsRankTable, IsServing, Table}
use Rattle.definitions.proofs.Lemmas.{common_steps, cases_order, cases_lt, ltb-true, ltb-false, get_or-append_seam}
use Rattle.definitions.proofs.Lemmas.{length-map-range_with_len, All-map, All-at, All-both}
use Rattle.laws.specs.Ranks.{IsGradual, IsGreatest}
use Rattle.laws.proofs.Checks.{rank_by-yes, rank_by-no, rank_by-rises, ranks_by-at}
use Rattle.laws.proofs.Tables.{shares-below}

-- ==== The staircase of a list of ranks

-- each number is below all later ones
abbrev pub Rises : List ℕ → Type 0
Rises [] = Unit {0}
Rises (x ∷ xs) = AllByRecursion (λ y. x < y) xs × Rises xs

cons-IsStrictlyIncreasing : (x : ℕ) (xs : List ℕ) → AllByRecursion (λ y. x < y) xs → IsStrictlyIncreasing xs →
    IsStrictlyIncreasing (x ∷ xs)
cons-IsStrictlyIncreasing x xs a h b l = search (rules, All-at)

pub Rises-IsStrictlyIncreasing : (xs : List ℕ) → Rises xs → IsStrictlyIncreasing xs
Rises-IsStrictlyIncreasing [] r = λ k l. absurd (omega arith)
Rises-IsStrictlyIncreasing (x ∷ xs) r = cons-IsStrictlyIncreasing x xs r.0 (Rises-IsStrictlyIncreasing xs r.1)

tail-IsStrictlyIncreasing : (x : ℕ) (xs : List ℕ) → IsStrictlyIncreasing (x ∷ xs) → IsStrictlyIncreasing xs
tail-IsStrictlyIncreasing x xs h k l =
    let on : suc k + 1 ≡ suc (k + 1) = omega arith in
    subst (λ (i : ℕ). slice_index xs k < slice_index (x ∷ xs) i) on (h (suc k) (omega arith))

pub IsStrictlyIncreasing-Rises : (xs : List ℕ) → IsStrictlyIncreasing xs → Rises xs
IsStrictlyIncreasing-Rises [] h = tt
IsStrictlyIncreasing-Rises (x ∷ []) h = (tt, tt)
IsStrictlyIncreasing-Rises (x ∷ y ∷ ys) h =
    let rest = IsStrictlyIncreasing-Rises (y ∷ ys) (tail-IsStrictlyIncreasing x (y ∷ ys) h) in
    let first : x < y = h 0 (omega arith) in
    ((first, All-map (λ z. y < z) (λ z. x < z) (λ z l. omega arith) ys rest.0), rest)

-- ---- the rank by numbers that rise

pub rank_by-none : (xs : List ℕ) (n : ℕ) → AllByRecursion (λ y. n ≤ y) xs → rank_by xs n ≡ 0
rank_by-none [] n h = refl
rank_by-none (x ∷ xs) n h = rank_by-no x xs n h.0 ∙ rank_by-none xs n h.1

pub rank_by-gradual : (xs : List ℕ) (n : ℕ) → Rises xs → rank_by xs (suc n) ≤ rank_by xs n + 1
rank_by-gradual [] n r = omega arith
rank_by-gradual (x ∷ xs) n r =
    let ih = rank_by-gradual xs n r.1 in
    elim (cases_order x n) [
      | inl e ↦ omega (
        arith,
        rank_by-yes x xs (suc n) (omega arith),
        rank_by-no x xs n (omega arith),
        rank_by-none xs (suc n) (All-map (λ y. x < y) (λ y. suc n ≤ y) (λ y l. omega arith) xs r.0),
      )
      | inr other ↦ elim other [
        | inl below ↦ omega (arith, rank_by-yes x xs (suc n) (omega arith), rank_by-yes x xs n below)
        | inr above ↦ omega (arith, rank_by-no x xs (suc n) (omega arith), rank_by-no x xs n (omega arith))
      ]
    ]

-- entry j has rank j, and each greater count a greater one
pub rank_by-entry : (xs : List ℕ) (j : ℕ) → Rises xs → j < length xs → rank_by xs (slice_index xs j) ≡ j
rank_by-entry [] j r l = absurd (omega arith)
rank_by-entry (x ∷ xs) zero r l =
    rank_by-no x xs x (omega arith) ∙ rank_by-none xs x (All-map (λ y. x < y) (λ y. x ≤ y) (λ y h. omega arith) xs r.0)
rank_by-entry (x ∷ xs) (suc j) r l =
    grind (arith, common_steps, rank_by-entry xs j r.1 (omega arith), rank_by-yes, All-at)

pub rank_by-past : (xs : List ℕ) (j n : ℕ) → Rises xs → j < length xs → slice_index xs j < n → j < rank_by xs n
rank_by-past [] j n r l h = absurd (omega arith)
rank_by-past (x ∷ xs) zero n r l h = omega (arith, rank_by-yes x xs n h)
rank_by-past (x ∷ xs) (suc j) n r l h =
    grind (arith, common_steps, rank_by-past xs j n r.1 (omega arith) h, All-at, rank_by-yes)

-- ---- what steps_from gives

-- each entry but the last
abbrev pub rises_in : ℕ → List ℕ → List ℕ
rises_in n [] = []
rises_in n (r ∷ []) = []
rises_in n (r ∷ next ∷ rs) = cond (nat_lt r next) (n ∷ rises_in (suc n) (next ∷ rs)) (rises_in (suc n) (next ∷ rs))

pub steps_from-last : (n r : ℕ) (rs : List ℕ) → steps_from n (r ∷ rs) ≡ rises_in n (r ∷ rs) ++ (n + length rs) ∷ []
steps_from-last n r [] = let e : n ≡ n + 0 = omega arith in ap (λ (k : ℕ). k ∷ []) e
steps_from-last n r (next ∷ rs) = grind (arith, steps_from-last (suc n) next rs, length)

pub steps_from-above : (n : ℕ) (f : List ℕ) → AllByRecursion (λ s. n ≤ s) (steps_from n f)
steps_from-above n [] = tt
steps_from-above n (r ∷ []) = (omega arith, tt)
steps_from-above n (r ∷ next ∷ rs) = grind (arith, steps_from-above (suc n) (next ∷ rs), All-map)

pub steps_from-below : (n : ℕ) (f : List ℕ) → AllByRecursion (λ s. s < n + length f) (steps_from n f)
steps_from-below n [] = tt
steps_from-below n (r ∷ []) = (omega arith, tt)
steps_from-below n (r ∷ next ∷ rs) = grind (arith, steps_from-below (suc n) (next ∷ rs), All-map, length)

-- whatever the ranks are, the steps rise
pub steps_from-Rises : (n : ℕ) (f : List ℕ) → Rises (steps_from n f)
steps_from-Rises n [] = tt
steps_from-Rises n (r ∷ []) = (tt, tt)
steps_from-Rises n (r ∷ next ∷ rs) = grind (arith, steps_from-Rises (suc n) (next ∷ rs), All-map, steps_from-above)

last-append : (xs : List ℕ) (y : ℕ) → slice_index (xs ++ y ∷ []) (length (xs ++ y ∷ []) - 1) ≡ y
last-append xs y =
    grind (arith, length xs, length (xs ++ y ∷ []) - 1, length-append xs (y ∷ []), get_or-append_seam xs y [] 0)

pub staircase_IsStaircase : (f : List ℕ) → 0 < length f → IsStaircase (staircase f)
staircase_IsStaircase [] h = absurd (omega arith)
staircase_IsStaircase (r ∷ rs) h = record {
  not_empty =
      omega (arith, ap length (steps_from-last 0 r rs), length-append (rises_in 0 (r ∷ rs)) ((0 + length rs) ∷ []));
  rises = Rises-IsStrictlyIncreasing (staircase (r ∷ rs)) (steps_from-Rises 0 (r ∷ rs));
}

-- the last entry is the last count
pub staircase_last : (f : List ℕ) → 0 < length f → slice_index (staircase f) (length (staircase f) - 1) ≡ length f - 1
staircase_last [] h = absurd (omega arith)
staircase_last (r ∷ rs) h = grind (arith, steps_from-last, last-append)

-- ---- the ranks come back

rank-steps : (a r : ℕ) (rs : List ℕ) → ((n : ℕ) → suc n < length (r ∷ rs) →
    (slice_index (r ∷ rs) n ≤ slice_index (r ∷ rs) (suc n))
    × (slice_index (r ∷ rs) (suc n) ≤ slice_index (r ∷ rs) n + 1)) →
    (i : ℕ) → i ≤ length rs → rank_by (steps_from a (r ∷ rs)) (a + i) + r ≡ slice_index (r ∷ rs) i
rank-steps a r rs g zero h = omega (
  arith,
  rank_by-none (steps_from a (r ∷ rs)) (a + 0) (All-map (λ s. a ≤ s) (λ s. a + 0 ≤ s) (λ s l. omega arith)
      (steps_from a (r ∷ rs)) (steps_from-above a (r ∷ rs))),
)
rank-steps a r [] g (suc j) h = absurd (omega arith)
rank-steps a r (next ∷ rs) g (suc j) h =
    let S : List ℕ = steps_from (suc a) (next ∷ rs) in
    let ih = rank-steps (suc a) next rs (λ n l. g (suc n) (omega arith)) j (omega arith) in
    let one = g 0 (omega arith) in
    let high : next ≤ r + 1 = one.1 in
    let on : suc a + j ≡ a + suc j = omega arith in
    let either : (b : Bool) → nat_lt r next ≡ b →
    rank_by (cond b (a ∷ S) S) (suc a + j) + r ≡ slice_index (next ∷ rs) j =
    elim [
      | true ↦ λ e. omega (arith, ltb-true r next e, rank_by-yes a S (suc a + j) (omega arith))
      | false ↦ λ e. omega (arith, ltb-false r next e)
    ] in
    subst (λ (k : ℕ). rank_by (steps_from a (r ∷ next ∷ rs)) k + r ≡ slice_index (next ∷ rs) j) on
    (either (nat_lt r next) refl)

pub rank_by_staircase : (f : List ℕ) → IsGradual f → (n : ℕ) → n < length f → rank_by (staircase f) n ≡ slice_index f n
rank_by_staircase [] g n h = absurd (omega arith)
rank_by_staircase (r ∷ rs) g n h =
    let same : 0 + n ≡ n = omega arith in
    omega (arith, rank-steps 0 r rs g.steps n (omega arith), ap (rank_by (staircase (r ∷ rs))) same)

empty : (f : List ℕ) → length f ≡ 0 → slice_index f 0 ≡ 0
empty f e = grind (arith, common_steps)

-- and only where they begin at 0 and leave out no number
pub gradual_only : (f : List ℕ) → ((n : ℕ) → n < length f → rank_by (staircase f) n ≡ slice_index f n) → IsGradual f
gradual_only f h = record {
  first = elim (cases_lt 0 (length f)) [
    | inl some ↦ sym (h 0 some) ∙ rank_by-none (staircase f) 0 (steps_from-above 0 f)
    | inr none ↦ empty f (omega arith)
  ];
  steps = λ n l.
      let a = h n (omega arith) in
      let b = h (suc n) l in (
        omega (arith, rank_by-rises (staircase f) n (suc n) (omega arith)),
        omega (arith, rank_by-gradual (staircase f) n (steps_from-Rises 0 f)),
      );
}

-- entry j is the greatest count of rank at most j
pub entries_are_greatest : (f : List ℕ) → IsGradual f → (j : ℕ) → j < length (staircase f) →
    IsGreatest f j (slice_index (staircase f) j)
entries_are_greatest f g j h =
    let within : slice_index (staircase f) j < length f = grind (arith, All-at, steps_from-below) in
    let r = steps_from-Rises 0 f in
    record {
      is_count = within;
      has =
          omega (arith, rank_by_staircase f g (slice_index (staircase f) j) within, rank_by-entry (staircase f) j r h);
      greatest = λ n l k. elim (cases_lt (slice_index (staircase f) j) n) [
        | inl past ↦ absurd (omega (arith, rank_by-past (staircase f) j n r h past, rank_by_staircase f g n l))
        | inr upto ↦ upto
      ];
    }

-- ---- ranks that leave out numbers

-- where the ranks do not fall, a lower rank has fewer steps below it
pub fewer_steps : (a r : ℕ) (rs : List ℕ) →
    ((n : ℕ) → suc n < length (r ∷ rs) → slice_index (r ∷ rs) n ≤ slice_index (r ∷ rs) (suc n)) →
    (i j : ℕ) → i < j → j ≤ length rs → slice_index (r ∷ rs) i < slice_index (r ∷ rs) j →
    rank_by (steps_from a (r ∷ rs)) (a + i) < rank_by (steps_from a (r ∷ rs)) (a + j)
fewer_steps a r rs g i zero l m h = absurd (omega arith)
fewer_steps a r [] g i (suc j) l m h = absurd (omega arith)
fewer_steps a r (next ∷ rs) g i (suc j) l m h =
    let S : List ℕ = steps_from (suc a) (next ∷ rs) in
    let ih = fewer_steps (suc a) next rs (λ n k. g (suc n) (omega arith)) in
    let onj : suc a + j ≡ a + suc j = omega arith in
    let one = g 0 (omega arith) in
    let first : r ≤ next = one in
    let none = rank_by-none (steps_from a (r ∷ next ∷ rs)) (a + 0) (All-map (λ s. a ≤ s) (λ s. a + 0 ≤ s)
    (λ s k. omega arith) (steps_from a (r ∷ next ∷ rs)) (steps_from-above a (r ∷ next ∷ rs))) in
    let case : (b : Bool) → nat_lt r next ≡ b → (k : ℕ) → k < suc j →
    slice_index (r ∷ next ∷ rs) k < slice_index (next ∷ rs) j →
    (k ≡ 0 → rank_by (cond b (a ∷ S) S) (a + k) ≡ 0) → rank_by (cond b (a ∷ S) S) (a + k) < rank_by (cond b (a ∷ S) S)
    (suc a + j) =
    elim [
      | true ↦ λ e. elim [
        | zero ↦ λ u v w. omega (arith, w refl, rank_by-yes a S (suc a + j) (omega arith))
        | suc k ↦ λ u v w.
            let on : suc a + k ≡ a + suc k = omega arith in
            omega (
              arith,
              ih k j (omega arith) (omega arith) v,
              rank_by-yes a S (suc a + j) (omega arith),
              rank_by-yes a S (a + suc k) (omega arith),
              ap (rank_by S) on,
            )
      ]
      | false ↦ λ e. elim [
        | zero ↦ λ u v w.
            let same : r ≡ next = omega (arith, ltb-false r next e) in
            elim (cases_lt 0 j) [
              | inl some ↦ omega (arith, w refl, ih 0 j some (omega arith) (omega arith))
              | inr no_more ↦
                  let at : j ≡ 0 = omega arith in
                  let back = ap (λ (i : ℕ). slice_index (next ∷ rs) i) at in
                  absurd (omega arith)
            ]
        | suc k ↦ λ u v w.
            let on : suc a + k ≡ a + suc k = omega arith in
            omega (arith, ih k j (omega arith) (omega arith) v, ap (rank_by S) on)
      ]
    ] in
    let zero_first : i ≡ 0 → rank_by (steps_from a (r ∷ next ∷ rs)) (a + i) ≡ 0 =
    λ e. ap (λ (k : ℕ). rank_by (steps_from a (r ∷ next ∷ rs)) (a + k)) e ∙ none in
    subst (λ (k : ℕ). rank_by (steps_from a (r ∷ next ∷ rs)) (a + i) < rank_by (steps_from a (r ∷ next ∷ rs)) k) onj
    (case (nat_lt r next) refl i l h zero_first)

-- ==== The staircase of any rank table serves: ranks that leave out numbers are packed

fewer : (f : List ℕ) → ((n : ℕ) → suc n < length f → slice_index f n ≤ slice_index f (suc n)) →
    (i j : ℕ) → i < j → j < length f → slice_index f i < slice_index f j →
    rank_by (staircase f) i < rank_by (staircase f) j
fewer [] g i j l m h = absurd (omega arith)
fewer (r ∷ rs) g i j l m h =
    let a : 0 + i ≡ i = omega arith in
    let b : 0 + j ≡ j = omega arith in
    omega (
      arith,
      fewer_steps 0 r rs g i j l (omega arith) h,
      ap (rank_by (staircase (r ∷ rs))) a,
      ap (rank_by (staircase (r ∷ rs))) b,
    )

pub packed : (T : Table) (f : List ℕ) → IsRankTable T f → IsServing T (staircase f)
packed T f r =
    let size = r.size in
    let steps : List ℕ = staircase f in
    record {
      reaches = omega (arith, staircase_last f (omega arith));
      ranks = record {
        size = length-map-range_with_len (rank_by steps) 0 (T.cap + 1);
        rises = λ m n h k. omega
            (arith, rank_by-rises steps m n h, ranks_by-at steps T.cap m (omega arith), ranks_by-at steps T.cap n k);
        descends = grind (arith, All-both, fewer, ranks_by-at, shares-below);
      };
    }

-- ranks that leave out no number are no greater than their counts
pub ranks_are_small : (f : List ℕ) → IsGradual f → (n : ℕ) → n < length f → slice_index f n ≤ n
ranks_are_small f g zero h = omega arith
ranks_are_small f g (suc n) h = omega (arith, ranks_are_small f g n (omega arith), (g.steps n h).1)
