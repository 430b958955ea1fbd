-- One turn of the loop from count to count, and its end.
use Rattle.std.proofs.Common.{◌≡◌, ℕ, zero, suc, ◌+◌, ◌-◌, ◌<◌, ◌≤◌, Bool, true, false, Option, Some, None, List, []}
use Rattle.std.proofs.Common.{◌∷◌, ◌++◌, length, refl, sym, ap, ◌∙◌, subst, arith, cond, ◌↔◌, inl, inr}
use Rattle.std.specs.Prelude.{nat_lt, slice_index, Ok, Err}
use Rattle.std.specs.List.{AllByRecursion}
use Rattle.std.proofs.lemmas.Bool.{cases_order, lt-ltb, le-ltb, cond-true, cond-false}
use Rattle.definitions.proofs.Lists.{All-map, All-append}
use Rattle.std.proofs.lemmas.List.{length-append}
use Rattle.definitions.specs.Strategies.{Table, shares}
use Rattle.definitions.specs.Ranks.{rank_by, is_stuck, first_stuck, found, found_unless, staircase, least_ranks}
use Rattle.definitions.specs.Ranks.{IsStaircase}
use Rattle.definitions.specs.Climbs.{above_all_by, push_step, Climbing, Stuck_at, At, climbing_next, climb_to}
use Rattle.definitions.specs.Climbs.{climbing_end, find_steps}
use Rattle.definitions.specs.Ranks.{IsLeastRankTable, IsServing, ranks_by}
use Rattle.laws.specs.Ranks.{IsGradual}
use Rattle.strategy_core.specs.Acts.{greatest}
use Rattle.strategy_check.specs.Ranking.{FindsSo, Climbs}
use Rattle.strategy_check.specs.declared.rank_fault.RankFault.TheVariants.{NoDescent, BadCertificate}
use Rattle.strategy_check.specs.declared.rank_fault.RankError.{RankError}
use Rattle.strategy_check.specs.declared.rank_fault.RankError.TheVariants as errors
use Rattle.strategy_check.proofs.Steps.{RisesFrom, rises_on, increasing, rank_by-most, above_none, above_greatest}

-- ---- the steps so far

-- they rise, and are below the count
pub record AreSteps (n : ℕ) (steps : List ℕ) : Type 0 where
  pub rise : RisesFrom 0 steps
  pub below : AllByRecursion (λ s. s < n) steps

steps_on : (n : ℕ) (steps : List ℕ) → AreSteps n steps → AreSteps (suc n) steps
steps_on n steps are =
    record { rise = are.rise; below = All-map (λ s. s < n) (λ s. s < suc n) (λ s h. omega arith) steps are.below }

steps_pushed : (n : ℕ) (steps : List ℕ) → AreSteps n steps → AreSteps (suc n) (steps ++ n ∷ [])
steps_pushed n steps are = record {
  rise = rises_on 0 steps n (omega arith) are.below are.rise;
  below = All-append (λ s. s < suc n) steps (n ∷ []) (steps_on n steps are).below (omega arith, tt);
}

step_made : (T : Table) (n : ℕ) (steps : List ℕ) → AreSteps n steps → AreSteps (suc n) (push_step T n steps)
step_made T n steps are =
    elim (nat_lt (length steps) (above_all_by steps (shares T (suc n)))) as (λ b. AreSteps (suc n)
    (cond b (steps ++ n ∷ []) steps)) [ true ↦ steps_pushed n steps are | false ↦ steps_on n steps are ]

pub are_steps : (T : Table) (n : ℕ) (steps : List ℕ) → climb_to T n ≡ At steps → AreSteps n steps
are_steps T zero steps e =
    let either : (b : Bool) → cond b (Stuck_at 0) (At []) ≡ At steps → AreSteps 0 steps =
    elim [
      | true ↦ λ d. absurd (cc)
      | false ↦ λ d. let none : [] ≡ steps = cc in subst (AreSteps 0) none (record { rise = tt; below = tt })
    ] in
    either (is_stuck T 0) e
are_steps T (suc n) steps e =
    let either : (old : List ℕ) → AreSteps n old → (b : Bool) →
    cond b (Stuck_at (suc n)) (At (push_step T n old)) ≡ At steps → AreSteps (suc n) steps =
    λ old are. elim [
      | true ↦ λ d. absurd (cc)
      | false ↦ λ d. let made : push_step T n old ≡ steps = cc in subst (AreSteps (suc n)) made (step_made T n old are)
    ] in
    let from : (c : Climbing) → climb_to T n ≡ c → climbing_next T n c ≡ At steps → AreSteps (suc n) steps =
    elim [
      | Stuck_at k ↦ λ was d. absurd (cc)
      | At old ↦ λ was d. either old (are_steps T n old was) (is_stuck T (suc n)) d
    ] in
    from (climb_to T n) refl e

-- ---- one turn

one_more : (T : Table) (n : ℕ) → climb_to T (n + 1) ≡ climb_to T (suc n)
one_more T n = let on : n + 1 ≡ suc n = omega arith in ap (climb_to T) on

pub turn_stuck : (T : Table) (n : ℕ) (steps : List ℕ) → climb_to T n ≡ At steps → is_stuck T (n + 1) ≡ true →
    climb_to T (n + 1) ≡ Stuck_at (n + 1)
turn_stuck T n steps e stuck =
    let on : n + 1 ≡ suc n = omega arith in
    one_more T n ∙ ap (climbing_next T n) e
    ∙ cond-true (is_stuck T (suc n)) (Stuck_at (suc n)) (At (push_step T n steps)) (ap (is_stuck T) (sym on) ∙ stuck)
    ∙ ap Stuck_at (sym on)

turn_free : (T : Table) (n : ℕ) (steps : List ℕ) → climb_to T n ≡ At steps → is_stuck T (n + 1) ≡ false →
    climb_to T (n + 1) ≡ At (push_step T n steps)
turn_free T n steps e free =
    let on : n + 1 ≡ suc n = omega arith in
    one_more T n ∙ ap (climbing_next T n) e
    ∙ cond-false (is_stuck T (suc n)) (Stuck_at (suc n)) (At (push_step T n steps)) (ap (is_stuck T) (sym on) ∙ free)

-- the greatest share is above all steps
pub turn_pushes : (T : Table) (n : ℕ) (steps : List ℕ) → climb_to T n ≡ At steps → is_stuck T (n + 1) ≡ false →
    0 < length (shares T (n + 1)) → length steps ≤ rank_by steps (greatest (shares T (n + 1))) →
    climb_to T (n + 1) ≡ At (steps ++ n ∷ [])
turn_pushes T n steps e free some top =
    let on : n + 1 ≡ suc n = omega arith in
    let above = above_greatest steps (shares T (n + 1)) some in
    let same = ap (λ (k : ℕ). above_all_by steps (shares T k)) on in
    turn_free T n steps e free ∙ ap At
    (cond-true _ (steps ++ n ∷ []) steps (lt-ltb (length steps) (above_all_by steps (shares T (suc n))) (omega arith)))

pub turn_none : (T : Table) (n : ℕ) (steps : List ℕ) → climb_to T n ≡ At steps → is_stuck T (n + 1) ≡ false →
    length (shares T (n + 1)) ≡ 0 → climb_to T (n + 1) ≡ At steps
turn_none T n steps e free none =
    let on : n + 1 ≡ suc n = omega arith in
    let above = above_none steps (shares T (n + 1)) none in
    let same = ap (λ (k : ℕ). above_all_by steps (shares T k)) on in
    turn_free T n steps e free ∙ ap At
    (cond-false _ (steps ++ n ∷ []) steps (le-ltb (length steps) (above_all_by steps (shares T (suc n))) (omega arith)))

pub turn_keeps : (T : Table) (n : ℕ) (steps : List ℕ) → climb_to T n ≡ At steps → is_stuck T (n + 1) ≡ false →
    0 < length (shares T (n + 1)) → rank_by steps (greatest (shares T (n + 1))) < length steps →
    climb_to T (n + 1) ≡ At steps
turn_keeps T n steps e free some low =
    let on : n + 1 ≡ suc n = omega arith in
    let above = above_greatest steps (shares T (n + 1)) some in
    let same = ap (λ (k : ℕ). above_all_by steps (shares T k)) on in
    let most = rank_by-most steps (greatest (shares T (n + 1))) in
    turn_free T n steps e free ∙ ap At
    (cond-false _ (steps ++ n ∷ []) steps (le-ltb (length steps) (above_all_by steps (shares T (suc n))) (omega arith)))

-- ---- the end

pub stuck_stays : (T : Table) (k m n : ℕ) → climb_to T k ≡ Stuck_at m → k ≤ n → climb_to T n ≡ Stuck_at m
stuck_stays T k m zero e h = let none : zero ≡ k = omega arith in ap (climb_to T) none ∙ e
stuck_stays T k m (suc n) e h = elim (cases_order k (suc n)) [
  | inl here ↦ ap (climb_to T) (sym here) ∙ e
  | inr other ↦ elim other [
    | inl below ↦ ap (climbing_next T n) (stuck_stays T k m n e (omega arith))
    | inr above ↦ absurd (omega arith)
  ]
]

pub found_stuck : (T : Table) (k m : ℕ) → climb_to T k ≡ Stuck_at m → k ≤ T.cap → find_steps T ≡ Err m
found_stuck T k m e h = ap (climbing_end T.cap) (stuck_stays T k m T.cap e h)

pub found_steps : (T : Table) (n : ℕ) (steps : List ℕ) → climb_to T n ≡ At steps → n ≡ T.cap →
    find_steps T ≡ Ok (steps ++ T.cap ∷ [])
found_steps T n steps e h = ap (climbing_end T.cap) (ap (climb_to T) (sym h) ∙ e)

pub whole_staircase : (T : Table) (n : ℕ) (steps : List ℕ) → climb_to T n ≡ At steps → n ≡ T.cap →
    IsStaircase (steps ++ T.cap ∷ [])
whole_staircase T n steps e h =
    let are : AreSteps T.cap steps = subst (λ (k : ℕ). AreSteps k steps) h (are_steps T n steps e) in
    record {
      not_empty = omega (arith, length-append steps (T.cap ∷ []));
      rises = increasing 0 (steps ++ T.cap ∷ []) (rises_on 0 steps T.cap (omega arith) are.below are.rise);
    }

-- ---- the least ranks

pub found_tells : (T : Table) (steps : List ℕ) → found T ≡ Ok steps →
    (first_stuck T ≡ None) × (staircase (least_ranks T) ≡ steps)
found_tells T steps e =
    let from : (o : Option ℕ) → first_stuck T ≡ o → found_unless (staircase (least_ranks T)) o ≡ Ok steps →
    (first_stuck T ≡ None) × (staircase (least_ranks T) ≡ steps) =
    elim [ None ↦ λ was d. (was, cc) | Some k ↦ λ was d. absurd (cc) ] in
    from (first_stuck T) refl e

pub find_fails : (T : Table) (k : ℕ) (steps : List ℕ) (e : RankError) → find_steps T ≡ found T → k + 1 ≤ T.cap →
    Climbs {A = Unit {0}} (Err e) steps (climb_to T (k + 1)) → FindsSo (Err e) (found T)
find_fails T k steps errors.Memory law h climbs = tt
find_fails T k steps (errors.Fault (NoDescent m)) law h climbs = sym law ∙ found_stuck T (k + 1) m climbs h
find_fails T k steps (errors.Fault (BadCertificate m)) law h climbs = climbs

pub least_found : (T : Table) (steps : List ℕ) →
    ((first_stuck T ≡ None) ↔ IsLeastRankTable T (least_ranks T)) →
    (first_stuck T ≡ None → IsGradual (least_ranks T)) →
    ((f : List ℕ) (cap : ℕ) → IsGradual f → length f ≡ cap + 1 → ranks_by (staircase f) cap ≡ f) →
    found T ≡ Ok steps → IsLeastRankTable T (ranks_by steps T.cap)
least_found T steps least gradual back e =
    let tells = found_tells T steps e in
    let table = least.0 tells.0 in
    let same : ranks_by steps T.cap ≡ least_ranks T = ap (λ (ss : List ℕ). ranks_by ss T.cap) (sym tells.1)
    ∙ back (least_ranks T) T.cap (gradual tells.0) table.ranks.size in
    subst (IsLeastRankTable T) (sym same) table

last_pushed : (xs : List ℕ) (y : ℕ) → slice_index (xs ++ y ∷ []) (length (xs ++ y ∷ []) - 1) ≡ y
last_pushed [] y = refl
last_pushed (x ∷ xs) y =
    let on : suc (length (xs ++ y ∷ [])) - 1 ≡ suc (length (xs ++ y ∷ []) - 1) =
    omega (arith, length-append xs (y ∷ [])) in
    ap (slice_index (x ∷ xs ++ y ∷ [])) on ∙ last_pushed xs y

pub serves_least : (T : Table) (steps : List ℕ) → IsLeastRankTable T (ranks_by (steps ++ T.cap ∷ []) T.cap) →
    IsServing T (steps ++ T.cap ∷ [])
serves_least T steps table = record { reaches = omega (arith, last_pushed steps T.cap); ranks = table.ranks }
