-- A session that was finished has ended: the deliveries of a finish are those of the law.
use Rattle.std.proofs.Common.{◌≡◌, ℕ, zero, suc, ◌+◌, ◌<◌, ◌≤◌, Bool, true, false, List, [], ◌∷◌, ◌++◌, set, slice_get}
use Rattle.std.proofs.Common.{Option, Some, None, refl, sym, ap, subst, ◌∙◌, take, length, get_or}
use Rattle.std.specs.Prelude.{Result, Ok, Err, OnOk, if◌then◌else◌}
use Rattle.std.proofs.lemmas.List.{take_more}
use Rattle.definitions.proofs.Words.{World, Session, two_lanes, has_ended, step, run, deliveries}
use Rattle.definitions.proofs.Lemmas.{cond_both, cond-true, fold-append}
use Rattle.definitions.specs.Worlds.{Did, Over, Sent, Deliver, deliver_at, after_delivery}
use Rattle.world_core.specs.Runs.{EndsByDeliveries}
use Rattle.sim_core.specs.declared.scenario.ScenarioStep.{ScenarioStep}
use Rattle.sim_core.specs.Runs.{is_sent, delivered, HasEnded, after_step, after_steps, EndsFinished, FinishesEnd}

-- ==== Deliveries until none follows, and all deliveries

set_there : {X : Type 0} (xs : List X) (k : ℕ) (x y : X) → slice_get xs k ≡ Some x → slice_get (set xs k y) k ≡ Some y
set_there [] k x y e = absurd cc
set_there (z ∷ zs) zero x y e = refl
set_there (z ∷ zs) (suc k) x y e = set_there zs k x y e

-- a delivery changes nothing
abbrev IsIdle : World → ℕ → Type 0
IsIdle w k = (step two_lanes w (Deliver k)).0 ≡ w

idle_run : (w : World) (k n : ℕ) → IsIdle w k → run two_lanes w (deliveries n k) ≡ w
idle_run w k zero idle = refl
idle_run w k (suc n) idle = ap (λ v. run two_lanes v (deliveries n k)) idle ∙ idle_run w k n idle

-- what a delivery makes of the world, and what it answers
abbrev IdleAfter : World → ℕ → World × Did → Type 0
IdleAfter w k p = is_sent p.1 ≡ false → IsIdle p.0 k

none_idle : (w : World) (k : ℕ) → slice_get w.sessions k ≡ None → IsIdle w k
none_idle w k e = ap (λ p. p.0) (ap (deliver_at two_lanes w k) e)

over_idle : (w : World) (k : ℕ) (s : Session) → slice_get w.sessions k ≡ Some s → has_ended two_lanes w s ≡ true →
    IsIdle w k
over_idle w k s e over =
    ap (λ p. p.0) (ap (deliver_at two_lanes w k) e ∙ cond-true (has_ended two_lanes w s) _ _ over)

-- after a delivery that is not answered none follows
abbrev with_sessions : World → List Session → World
with_sessions w ss = record w { sessions = ss }

is_over : (b : Bool) → is_sent (if b then Over else Sent) ≡ false → b ≡ true
is_over true e = refl
is_over false e = absurd cc

idle_after : (w : World) (k : ℕ) (o : Option Session) → slice_get w.sessions k ≡ o →
    IdleAfter w k (deliver_at two_lanes w k o)
idle_after w k None e = λ unsent. none_idle w k e
idle_after w k (Some s) e =
    cond_both (has_ended two_lanes w s) _ _ (IdleAfter w k) (λ over unsent. over_idle w k s e over)
    (λ going unsent.
    let t : Session = after_delivery w s in
    over_idle (with_sessions w (set w.sessions k t)) k t (set_there w.sessions k s t e)
    (is_over (has_ended two_lanes w t) unsent))

delivered_all : (n : ℕ) (w : World) (k : ℕ) → delivered n w k ≡ run two_lanes w (deliveries n k)
delivered_all zero w k = refl
delivered_all (suc n) w k =
    let v : World = (step two_lanes w (Deliver k)).0 in
    cond_both (is_sent (step two_lanes w (Deliver k)).1) (delivered n v k) v (λ u. u ≡ run two_lanes v (deliveries n k))
    (λ sent. delivered_all n v k)
    (λ unsent. sym (idle_run v k n (idle_after w k (slice_get w.sessions k) refl unsent)))

-- ==== So a finish ends its session

pub finish_ends : {D E : Type 0} (r : Result D E) (w v : World) (k n : ℕ) → EndsByDeliveries two_lanes w → 513 ≤ n →
    OnOk r (v ≡ delivered n w k) → OnOk r (HasEnded k v)
finish_ends (Err e) w v k n ends many ok = tt
finish_ends (Ok d) w v k n ends many ok =
    subst (HasEnded k) (sym (ok ∙ delivered_all n w k)) (λ s found. ends k n s many found)

-- ==== Of each finish among the steps

pub finishes_more : (w : World) (es : List ScenarioStep) (e : ScenarioStep) → FinishesEnd w es →
    EndsFinished e (after_step (after_steps w es) e) → FinishesEnd w (es ++ e ∷ [])
finishes_more w [] e before ended = (ended, tt)
finishes_more w (d ∷ es) e before ended = (before.0, finishes_more (after_step w d) es e before.1 ended)

-- the world after the first of the steps, and what was finished by then
pub record HasDone (w v : World) (es : List ScenarioStep) : Type 0 where
  pub world : v ≡ after_steps w es
  pub ended : FinishesEnd w es

pub does_more : (w v u : World) (es : List ScenarioStep) (i : ℕ) (e : ScenarioStep) → i < length es →
    e ≡ get_or es i e →
    HasDone w v (take i es) → u ≡ after_step v e → EndsFinished e u → HasDone w u (take (i + 1) es)
does_more w v u es i e more read done is ended =
    let next : take (i + 1) es ≡ take i es ++ e ∷ [] =
    take_more es i e more ∙ ap (λ d. take i es ++ d ∷ []) (sym read) in
    let here : u ≡ after_step (after_steps w (take i es)) e = is ∙ ap (λ x. after_step x e) done.world in
    subst (HasDone w u) (sym next)
    record {
      world = here ∙ sym (fold-append after_step w (take i es) (e ∷ []));
      ended = finishes_more w (take i es) e done.ended (subst (EndsFinished e) here ended);
    }
