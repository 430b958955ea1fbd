-- Deliveries reach the end of a session: each delivers one message more, and a session has few.
-- Of each session of a run something is kept that says all of it (`HasKept`), and this holds after every step:
-- sessions that were there stay, one that is opened has it, and a delivery makes it of the one that it delivers. So,
-- in each world of a run, a session has at most 3 + 2 * 255 messages, since its rank table is within rounds of at most
-- 255.
-- Deliver the same session again and again. By induction on n, after n deliveries it has ended, or n messages more
-- were delivered (`Reaches`). It never has more delivered messages than messages, so after 513 deliveries it has
-- ended. Steps on a session that is not there do nothing.
-- docs/LAWS.md: Deliveries end a session.
use Rattle.std.proofs.Common.{◌≡◌, ℕ, zero, suc, ◌+◌, ◌<◌, ◌≤◌, ◌⊎◌, inl, inr, Bool, true, false, List, [], ◌∷◌, ◌++◌}
use Rattle.std.proofs.Common.{length, set, slice_get, Option, Some, None, unwrap_or, refl, sym, ap, subst, ◌∙◌, arith}
use Rattle.std.specs.Prelude.{◌==◌}
use Rattle.definitions.proofs.Words.{AllByRecursion, Summary, IsExact, has_open, reply, IsNode, IsRankTable, Ready}
use Rattle.definitions.proofs.Words.{rank, SessionsEnd, deliveries, Item, World, Node, Session, Side, Initiator}
use Rattle.definitions.proofs.Words.{Responder, Step, node_at, no_node, peer_at, initiator_of, responder_of, messages}
use Rattle.definitions.proofs.Words.{has_ended, insert_at, absorb_side, absorb_at, step, run, start}
use Rattle.definitions.specs.Worlds.{Did, Insert, Open, Deliver, Absorb, open_at, deliver_at, after_delivery}
use Rattle.definitions.proofs.Lemmas.{All-append, All-at, All-map, cond_both, cond-false, cond-true, eq-eqb}
use Rattle.definitions.proofs.Lemmas.{fold-append, get_or_from_slice_get}
use Rattle.std.proofs.lemmas.Option.{slice_get_within}
use Rattle.laws.specs.Sessions.{Kept, Keeps, GoesOnBy, hearer_now}
use Rattle.laws.proofs.Ends.{messages_are_few}
use Rattle.laws.proofs.Runs.{All-set, All-slice_get, length-version, peer_at-IsSet}
use Rattle.laws.proofs.Sessions.{sessions_go_on, sessions_open}
use Rattle.laws.proofs.Staying.{sessions_keep_nodes, sessions_stay}
use Rattle.laws.proofs.Telling.{sessions_tell}

-- ==== Of each session of a run something is kept

abbrev HasKept : {F : Type 0} → Summary F → World → Session → Type 0
HasKept {F} S w s = (k : Kept F) × Keeps S w s k

record IsGood {F : Type 0} (S : Summary F) (w : World) : Type 0 where
  nodes : AllByRecursion IsNode w.nodes
  kept : AllByRecursion (HasKept S w) w.sessions

-- ---- sessions that were there stay

all_stay : {F : Type 0} (S : Summary F) (w : World) (e : Step) → IsGood S w →
    AllByRecursion (HasKept S (step S w e).0) w.sessions
all_stay S w e good =
    let after = sessions_stay S w e in
    All-map (HasKept S w) (HasKept S (step S w e).0) (λ s h. (h.0, after.kept s h.0 h.1)) w.sessions good.kept

same_sessions : {F : Type 0} (S : Summary F) (w : World) (e : Step) → (step S w e).0.sessions ≡ w.sessions →
    IsGood S w → IsGood S (step S w e).0
same_sessions S w e same good = record {
  nodes = (sessions_stay S w e).nodes good.nodes;
  kept = subst (AllByRecursion (HasKept S (step S w e).0)) (sym same) (all_stay S w e good);
}

insert_sessions : (w : World) (n : ℕ) (x : Item) (o : Option Node) → (insert_at w n x o).0.sessions ≡ w.sessions
insert_sessions w n x None = refl
insert_sessions w n x (Some node) = refl

side_sessions : {F : Type 0} (S : Summary F) (w : World) (s : Session) (side : Side) →
    (absorb_side S w s side).0.sessions ≡ w.sessions
side_sessions S w s Initiator = refl
side_sessions S w s Responder = refl

absorb_sessions : {F : Type 0} (S : Summary F) (w : World) (side : Side) (o : Option Session) →
    (absorb_at S w side o).0.sessions ≡ w.sessions
absorb_sessions S w side None = refl
absorb_sessions S w side (Some s) =
    cond_both (has_ended S w s) _ _ (λ (p : World × Did). p.0.sessions ≡ w.sessions) (λ e. side_sessions S w s side)
    (λ e. refl)

-- ---- one is opened

-- the same nodes and other sessions
abbrev with_sessions : World → List Session → World
with_sessions w ss = record w { sessions = ss }

with_good : {F : Type 0} (S : Summary F) (w : World) (ss : List Session) → AllByRecursion IsNode w.nodes →
    AllByRecursion (HasKept S w) ss → IsGood S (with_sessions w ss)
with_good S w ss nodes kept = record {
  nodes = nodes;
  kept = All-map (HasKept S w) (HasKept S (with_sessions w ss))
      (λ s h. (h.0, sessions_keep_nodes S w (with_sessions w ss) s h.0 refl h.1)) ss kept;
}

abbrev opened : ℕ → ℕ → Node → Session
opened i r a = record {
  initiator_node = i;
  responder_node = r;
  initiator_version = length a.history;
  responder_version =
      None;
  delivered = 0;
}

open_good : {F : Type 0} (S : Summary F) (w : World) (i r : ℕ) (a b : Option Node) → slice_get w.nodes i ≡ a →
    slice_get w.nodes r ≡ b → IsGood S w → IsGood S (open_at w i r a b).0
open_good S w i r None b e f good = good
open_good S w i r (Some a) None e f good = good
open_good S w i r (Some a) (Some b) e f good =
    let begun : HasKept S w (opened i r (node_at w i)) =
    (_, sessions_open S w i r (slice_get_within w.nodes i a e) (slice_get_within w.nodes r b f)) in
    let new : HasKept S w (opened i r a) =
    subst (λ n. HasKept S w (opened i r n)) (get_or_from_slice_get w.nodes i a no_node e) begun in
    cond_both (i == r) _ _ (λ (p : World × Did). IsGood S p.0) (λ same. good)
    (λ apart. with_good S w (w.sessions ++ opened i r a ∷ []) good.nodes
    (All-append (HasKept S w) w.sessions (opened i r a ∷ []) good.kept (new, tt)))

-- ---- one message is delivered

after_by : {F : Type 0} (S : Summary F) (w : World) (s : Session) (k : Kept F) (b : Bool) → has_open k.last ≡ b →
    GoesOnBy S w s k → HasKept S w (after_delivery w s)
after_by S w s k true e on =
    (_, (on.replied (reply S (hearer_now S w s k).peer k.last) (on.taken ∙ cond-true (has_open k.last) _ _ e)).0)
after_by S w s k false e on = (_, (on.ended (on.taken ∙ cond-false (has_open k.last) _ _ e)).0)

delivery_good : {F : Type 0} (S : Summary F) (w : World) (k : ℕ) (s : Session) → IsExact S →
    slice_get w.sessions k ≡ Some s → has_ended S w s ≡ false → IsGood S w →
    IsGood S (with_sessions w (set w.sessions k (after_delivery w s)))
delivery_good S w k s exact e going good =
    let old : HasKept S w s = All-slice_get (HasKept S w) w.sessions k s e good.kept in
    let on : GoesOnBy S w s old.0 = sessions_go_on S exact w s old.0 good.nodes old.1 going in
    with_good S w (set w.sessions k (after_delivery w s)) good.nodes
    (All-set (HasKept S w) w.sessions k (after_delivery w s) good.kept
    (after_by S w s old.0 (has_open old.0.last) refl on))

deliver_good : {F : Type 0} (S : Summary F) (w : World) (k : ℕ) (o : Option Session) → IsExact S →
    slice_get w.sessions k ≡ o → IsGood S w → IsGood S (deliver_at S w k o).0
deliver_good S w k None exact e good = good
deliver_good S w k (Some s) exact e good =
    cond_both (has_ended S w s) _ _ (λ (p : World × Did). IsGood S p.0) (λ over. good)
    (λ going. delivery_good S w k s exact e going good)

-- ---- every step, and every run

step_good : {F : Type 0} (S : Summary F) (w : World) (e : Step) → IsExact S → IsGood S w → IsGood S (step S w e).0
step_good S w (Insert n x) exact good =
    same_sessions S w (Insert n x) (insert_sessions w n x (slice_get w.nodes n)) good
step_good S w (Open i r) exact good = open_good S w i r (slice_get w.nodes i) (slice_get w.nodes r) refl refl good
step_good S w (Deliver k) exact good = deliver_good S w k (slice_get w.sessions k) exact refl good
step_good S w (Absorb k side) exact good =
    same_sessions S w (Absorb k side) (absorb_sessions S w side (slice_get w.sessions k)) good

run_good : {F : Type 0} (S : Summary F) (w : World) (es : List Step) → IsExact S → IsGood S w → IsGood S (run S w es)
run_good S w [] exact good = good
run_good S w (e ∷ es) exact good = run_good S (step S w e).0 es exact (step_good S w e exact good)

-- ==== A session has few messages

-- a rank table whose greatest rank is within the rounds
small_rank : (w : World) (n v : ℕ) → AllByRecursion IsNode w.nodes → n < length w.nodes →
    (f : List ℕ) × Ready (peer_at w n v) f × (rank f (peer_at w n v) ≤ 255)
small_rank w n v nodes there =
    let fit : IsNode (node_at w n) = All-at IsNode w.nodes n no_node there nodes in
    let room : length (peer_at w n v).items ≤ (node_at w n).table.cap =
    omega (arith, length-version (node_at w n).history v, fit.room) in
    let f : List ℕ = fit.accepted.ranks.0 in
    let ranks : IsRankTable (node_at w n).table f = fit.accepted.ranks.1 in (
      f,
      record { ranks = ranks; set = peer_at-IsSet w n v; room = room },
      omega (
        arith,
        ranks.rises (length (peer_at w n v).items) (node_at w n).table.cap room (omega arith),
        fit.accepted.ranks.2,
        fit.table.rounds,
      ),
    )

few : {F : Type 0} (S : Summary F) (w : World) (s : Session) → IsGood S w → HasKept S w s →
    length (messages S w s) ≤ 513
few S w s good kept =
    let i = small_rank w s.initiator_node s.initiator_version good.nodes kept.1.initiator_there in
    let r = small_rank w s.responder_node (unwrap_or s.responder_version 0) good.nodes kept.1.responder_there in
    omega (arith, messages_are_few S (initiator_of w s) (responder_of w s) i.0 r.0 (s.delivered + 1) i.1 r.1, r.2)

-- ==== Deliveries one after another

-- the session at its place has ended, or so many messages were delivered
record Reaches {F : Type 0} (S : Summary F) (k n : ℕ) (w : World) : Type 0 where
  session : Session
  here : slice_get w.sessions k ≡ Some session
  far : (has_ended S w session ≡ true) ⊎ (n ≤ session.delivered)

set_there : {X : Type 0} (xs : List X) (k : ℕ) (x y : X) → slice_get xs k ≡ Some x → slice_get (set xs k y) k ≡ Some y
set_there [] k x y e = absurd cc
set_there (z ∷ zs) zero x y e = refl
set_there (z ∷ zs) (suc k) x y e = set_there zs k x y e

-- a delivery that changes nothing
idle_run : {F : Type 0} (S : Summary F) (w : World) (k n : ℕ) → (step S w (Deliver k)).0 ≡ w →
    run S w (deliveries n k) ≡ w
idle_run S w k zero idle = refl
idle_run S w k (suc n) idle = ap (λ v. run S v (deliveries n k)) idle ∙ idle_run S w k n idle

reaches : {F : Type 0} (S : Summary F) (k n : ℕ) (w : World) (s : Session) → slice_get w.sessions k ≡ Some s →
    Reaches S k (s.delivered + n) (run S w (deliveries n k))
reaches S k zero w s here = record { session = s; here = here; far = inr (omega arith) }
reaches S k (suc n) w s here =
    cond_both (has_ended S w s) _ _
    (λ (p : World × Did). step S w (Deliver k) ≡ p →
    Reaches S k (s.delivered + suc n) (run S w (deliveries (suc n) k)))
    (λ over same.
    let idle : (step S w (Deliver k)).0 ≡ w = ap (λ p. p.0) same in
    subst (Reaches S k (s.delivered + suc n))
    (sym (idle_run S w k (suc n) idle)) record { session = s; here = here; far = inl over })
    (λ going same.
    let v : World = with_sessions w (set w.sessions k (after_delivery w s)) in
    let next : (step S w (Deliver k)).0 ≡ v = ap (λ p. p.0) same in
    let later : Reaches S k (s.delivered + 1 + n) (run S v (deliveries n k)) =
    reaches S k n v (after_delivery w s) (set_there w.sessions k s (after_delivery w s) here) in
    let count : s.delivered + 1 + n ≡ s.delivered + suc n = omega arith in
    subst (λ u. Reaches S k (s.delivered + suc n) (run S u (deliveries n k))) (sym next)
    (subst (λ m. Reaches S k m (run S v (deliveries n k))) count later))
    (ap (deliver_at S w k) here)

-- a session that is there after deliveries was there before them
found_before : {F : Type 0} (S : Summary F) (w : World) (k n : ℕ) (o : Option Session) (s : Session) →
    slice_get w.sessions k ≡ o → slice_get (run S w (deliveries n k)).sessions k ≡ Some s →
    (t : Session) × (slice_get w.sessions k ≡ Some t)
found_before S w k n (Some t) s e found = (t, e)
found_before S w k n None s e found =
    let idle : (step S w (Deliver k)).0 ≡ w = ap (λ p. p.0) (ap (deliver_at S w k) e) in
    absurd (some_none s (sym found ∙ ap (λ v. slice_get v.sessions k) (idle_run S w k n idle) ∙ e)) where
      some_none : (s : Session) → Some s ≡ None → ⊥
      some_none s e = cc

-- ==== So a session ends

over_by : {F : Type 0} (S : Summary F) (w : World) (s : Session) (n : ℕ) → IsExact S → IsGood S w → HasKept S w s →
    513 ≤ n → (has_ended S w s ≡ true) ⊎ (n ≤ s.delivered) → has_ended S w s ≡ true
over_by S w s n exact good kept many (inl over) = over
over_by S w s n exact good kept many (inr far) =
    let tells = sessions_tell S exact w s kept.0 good.nodes kept.1 in
    eq-eqb (length (messages S w s)) s.delivered (omega (arith, few S w s good kept, tells.delivered))

pub sessions_end : {F : Type 0} (S : Summary F) → SessionsEnd S
sessions_end S exact nodes steps k n s ready many found =
    let w : World = run S (start nodes) steps in
    let u : World = run S (start nodes) (steps ++ deliveries n k) in
    let split : u ≡ run S w (deliveries n k) =
    fold-append (λ v e. (step S v e).0) (start nodes) steps (deliveries n k) in
    let good : IsGood S u =
    run_good S (start nodes) (steps ++ deliveries n k) exact record { nodes = ready; kept = tt } in
    let before = found_before S w k n (slice_get w.sessions k) s refl
    (ap (λ v. slice_get v.sessions k) (sym split) ∙ found) in
    let there : Reaches S k (before.0.delivered + n) u =
    subst (Reaches S k (before.0.delivered + n)) (sym split) (reaches S k n w before.0 before.1) in
    let same : there.session ≡ s = some_same there.session s (sym there.here ∙ found) in
    let kept : HasKept S u s = All-slice_get (HasKept S u) u.sessions k s found good.kept in
    over_by S u s (before.0.delivered + n) exact good kept (omega arith)
    (subst (λ t. (has_ended S u t ≡ true) ⊎ (before.0.delivered + n ≤ t.delivered)) same there.far) where
      some_same : (s t : Session) → Some s ≡ Some t → s ≡ t
      some_same s t e = cc
