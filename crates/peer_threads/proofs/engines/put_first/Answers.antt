use Rattle.std.proofs.Common.{◌≡◌, Some, Err, sym, ap, ◌∙◌, subst, rules}
use Rattle.std.proofs.lemmas.Result.{err_from_is_err_and}
use Rattle.definitions.specs.Placing.{next, refusal, finish}
use Rattle.definitions.specs.Wire.{Came, Ended}
use Rattle.place_core.specs.PlaceFaults.{place_fault_number}
use Rattle.wire_core.specs.Events.{event_value}
use Rattle.peer_threads.specs.Stops.{of_placing}
use Rattle.peer_threads.specs.Underway.{Refuses, first_held, first_place}
use Rattle.peer_threads.proofs.FirstMessages.{part-refused, end-refused}
use Rattle.peer_threads.proofs.Serving.{told}
use Rattle.peer_threads.proofs.engines.put_first.Goals as goal

pub returns-in_err-next-in-Part-clause-stopped : goal.returns-in_err-next-in-Part-clause-stopped
returns-in_err-next-in-Part-clause-stopped g c =
    let S = g.F.WireSummary.summary in
    let M = c.args.parts.now.items in
    let p = c.in-Part.part in
    let f = c.in_err-next-in-Part.field-0.0 in
    let is = err_from_is_err_and c.from_residual.result c.from_residual.ensures.1 in
    let came : event_value c.args.event ≡ Came p = search rules in
    let said : Some (place_fault_number f) ≡ refusal c.next.new.self.now = search rules in
    let at : c.next.new.self.now ≡ next (first_place S M) p =
    ap (λ x. x.now) c.next.ensures.place ∙ ap (λ x. next x p) c.requires.place in
    told c.from_residual.result (of_placing f) _ (is.1 ∙ ap Err is.2) (λ P.
    subst (λ e. Refuses S (first_held S P M) e (of_placing f)) (sym came)
    (part-refused S g.F.WireSummary.profile P M p (place_fault_number f) (said ∙ ap refusal at)))

pub returns-in_err-finish-in-End-clause-stopped : goal.returns-in_err-finish-in-End-clause-stopped
returns-in_err-finish-in-End-clause-stopped g c =
    let S = g.F.WireSummary.summary in
    let M = c.args.parts.now.items in
    let f = c.in_err-finish-in-End.field-0.0 in
    let is = err_from_is_err_and c.from_residual-in_err-finish-in-End.result
    c.from_residual-in_err-finish-in-End.ensures.1 in
    let ended : event_value c.args.event ≡ Ended = search rules in
    let said : Some (place_fault_number f) ≡ finish c.args.place.now.now = search rules in
    told c.from_residual-in_err-finish-in-End.result (of_placing f) _ (is.1 ∙ ap Err is.2) (λ P.
    subst (λ e. Refuses S (first_held S P M) e (of_placing f)) (sym ended)
    (end-refused S g.F.WireSummary.profile P M (place_fault_number f) (said ∙ ap finish c.requires.place)))
