use Rattle.std.proofs.Common.{◌≡◌, [], ◌∷◌, ◌++◌, Ok, length, sym, ap, ◌∙◌, arith, rules}
use Rattle.std.proofs.lemmas.List.{length-append}
use Rattle.toml.specs.View.{view}
use Rattle.sim_core.specs.Scenarios.{step_in}
use Rattle.sim_core.proofs.ScenarioReadings.{read_on}
use Rattle.sim_core.proofs.scenario_text.steps_in.Goals as goal
use Rattle.sim_core.proofs.scenario_text.steps_in.Goals.{in-Do+in_ok-push-in-Do, in-Finish+in_ok-push-in-Finish}

pub loop-value-preserved : goal.loop-value-preserved
loop-value-preserved c =
    let size : c.len.result ≡ length c.loop-value.steps.items = search rules in
    let number = size ∙ c.loop-value.invariant.number in
    let step : step_in c.loop-value.value-index (view c.value-item.result) ≡ Ok c.in_ok-step.field-0 =
    ap (λ n. step_in n (view c.value-item.result)) (sym number) ∙ sym c.in_ok-step.ensures in
    let grown : c.match-branch-2.steps.items ≡ c.loop-value.steps.items ++ c.in_ok-step.field-0 ∷ [] =
    elim c.match-branch-2.branch [
      | in-Do+in_ok-push-in-Do w ↦ ap (λ steps. steps.items) w.steps-is
          ∙ (w.in_ok-push-in-Do.ensures.items ∙ ap (λ s. c.loop-value.steps.items ++ s ∷ []) (sym w.in-Do.is))
      | in-Finish+in_ok-push-in-Finish w ↦ ap (λ steps. steps.items) w.steps-is
          ∙ (w.in_ok-push-in-Finish.ensures.items ∙ ap (λ s. c.loop-value.steps.items ++ s ∷ []) (sym w.in-Finish.is))
    ] in
    rw grown record {
      so_far = read_on step_in c.args.array.now.items c.deref-value-items.result.now c.loop-value.value-index
          c.value-item.result c.loop-value.steps.items c.in_ok-step.field-0 c.deref-value-items.ensures.value
          c.loop-value-test.true c.value-item.is step c.loop-value.invariant.so_far;
      number = omega
          (arith, length-append c.loop-value.steps.items (c.in_ok-step.field-0 ∷ []), c.loop-value.invariant.number);
    }
