-- The reasons, in their order, and what it means that there is none.
use Rattle.std.proofs.Common.{◌≡◌, ℕ, ◌≤◌, None, List, refl, ap, ◌∙◌, ◌↔◌}
use Rattle.std.specs.Prelude.{option_map, IsTrue, ◌≢◌}
use Rattle.std.specs.Option.{option_or}
use Rattle.std.specs.List.{list_all}
use Rattle.std.specs.List.Sorted.{IsStrictlyIncreasing}
use Rattle.definitions.specs.Strategies.{Table, IsTable}
use Rattle.definitions.specs.Ranks.{Accepted, List_too_long, Bad_certificate, keeps_limit, first_long, first_unfit}
use Rattle.definitions.specs.Ranks.{check_fault, check_with_fault, deep_fault, rank_by, ranks_by, IsStaircase}
use Rattle.definitions.specs.Ranks.{IsServing}
use Rattle.definitions.specs.Climbs.{deep_by_steps}
use Rattle.strategy_check.specs.Checked.{IsChecked}
use Rattle.strategy_check.specs.Refused.{Refuses}
use Rattle.strategy_check.specs.declared.fault.CheckError.{CheckError}
use Rattle.strategy_check.specs.declared.fault.CheckError.TheVariants as errors

-- what the laws of the check say
abbrev pub Accepts : Type 0
Accepts = (T : Table) → (check_fault T ≡ None) ↔ Accepted T

abbrev pub AcceptsWith : Type 0
AcceptsWith = (T : Table) (steps : List ℕ) → (check_with_fault T steps ≡ None)
    ↔ (IsTrue (list_all (keeps_limit T.limit) T.rows) × IsServing T steps × (rank_by steps T.cap ≤ T.rounds))

abbrev pub DeepBySteps : Type 0
DeepBySteps = (T : Table) (steps : List ℕ) → IsStrictlyIncreasing steps →
    deep_fault T (ranks_by steps T.cap) ≡ deep_by_steps T.cap T.rounds steps

-- where no list is too long and the ranks serve, what is left is a rank above the rounds
pub with_deep : DeepBySteps → (T : Table) (steps : List ℕ) → first_long T ≡ None → first_unfit T steps ≡ None →
    IsStaircase steps → check_with_fault T steps ≡ deep_by_steps T.cap T.rounds steps
with_deep law T steps long unfit stairs =
    ap (λ o. option_or (option_map List_too_long o)
    (option_or (option_map Bad_certificate (first_unfit T steps)) (deep_fault T (ranks_by steps T.cap)))) long
    ∙ ap (λ o. option_or (option_map Bad_certificate o) (deep_fault T (ranks_by steps T.cap))) unfit
    ∙ law T steps stairs.rises

pub checked_with : AcceptsWith → ((T : Table) (steps : List ℕ) → check_with_fault T steps ≡ None → Accepted T) →
    (T : Table) (steps : List ℕ) → IsTable T → check_with_fault T steps ≡ None →
    IsChecked (record { table = T; steps = steps })
checked_with law accepted T steps table none =
    let passed = (law T steps).0 none in
    record { is_table = table; accepted = accepted T steps none; serving = passed.1; within = passed.2 }

pub not_refused : Accepts → (T : Table) (e : CheckError) → Refuses e T → e ≢ errors.Memory → Accepted T → ⊥
not_refused law T errors.Memory refused h accepted = h refl
not_refused law T (errors.Fault f) refused h accepted = absurd (cc (refused, (law T).1 accepted))
