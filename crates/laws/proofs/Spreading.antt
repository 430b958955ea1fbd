-- An item travels along sessions, each opened after the last one was absorbed.
-- Histories only grow, so a version that is chosen later has all that the history had before (`Grows`). A session that
-- is opened in a run, and one whose first message is delivered in it, chooses its versions there: each is at least as
-- long as the history was at the beginning of the run (`IsLater`). So the item is in the version of the node that has
-- it, and the node that absorbs the session has it then (`absorb_claim`). The rest is induction on the legs.
-- Where each node reaches each one, all have what any had; and nobody has more, since an item of a history was in some
-- history before, or was inserted.
-- docs/LAWS.md: Spread.
use Rattle.std.proofs.Common.{◌≡◌, ℕ, zero, suc, ◌+◌, ◌<◌, ◌≤◌, ◌⊎◌, inl, inr, true, false, List, [], ◌∷◌, ◌++◌}
use Rattle.std.proofs.Common.{length, set, take, slice_get, Option, Some, None, unwrap_or, refl, sym, ap, subst}
use Rattle.std.proofs.Common.{◌∙◌, arith, ◌||◌}
use Rattle.std.specs.Prelude.{IfSome, flat_map, ◌==◌}
use Rattle.std.proofs.lemmas.List.{take-take}
use Rattle.std.proofs.lemmas.Bool.{eqb-true}
use Rattle.definitions.proofs.Words.{Item, Summary, IsExact, History, content, items_of, version, World, Session, Node}
use Rattle.definitions.proofs.Words.{Side, Initiator, Responder, Step, node_at, no_node, peer_at, has, has_ended, step}
use Rattle.definitions.proofs.Words.{run, insert_at, absorb_at, absorb_side, list_any, inserts, initiator_of}
use Rattle.definitions.proofs.Words.{responder_of, Message, opening, talk_from}
use Rattle.definitions.specs.Worlds.{Did, Insert, Open, Deliver, Absorb, open_at, deliver_at, after_delivery}
use Rattle.definitions.proofs.Lemmas.{cond_both, fold-append, cases_lt, get_or_from_slice_get, get_or_past, or_left}
use Rattle.definitions.proofs.Lemmas.{or_right}
use Rattle.definitions.specs.Theorems.{node_of}
use Rattle.laws.specs.Spreading.{Leg, Carries, IsWay, SpreadClaim, UnionClaim, steps_of, other_side, Reaches}
use Rattle.laws.proofs.Runs.{absorb_claim, has-content, has-version, HasItem-run}
use Rattle.laws.proofs.Staying.{Grows, grows_on, same_nodes, step_grows}

-- ==== Versions that are chosen later

-- the versions of the session are chosen after w
record IsLater (w : World) (s : Session) : Type 0 where
  initiator : length (node_at w s.initiator_node).history ≤ s.initiator_version
  responder : IfSome s.responder_version (λ v. length (node_at w s.responder_node).history ≤ v)
  unheard : s.responder_version ≡ None → s.delivered ≡ 0

-- v comes after w
record Follows (w v : World) : Type 0 where
  grows : Grows w v
  later : (k : ℕ) (s : Session) → length w.sessions ≤ k → slice_get v.sessions k ≡ Some s → IsLater w s

-- ---- one session more, and one session changed

there_after_push : (xs : List Session) (k : ℕ) (y x : Session) → slice_get (xs ++ y ∷ []) k ≡ Some x →
    (slice_get xs k ≡ Some x) ⊎ (y ≡ x)
there_after_push [] zero y x e = inr cc
there_after_push [] (suc k) y x e = absurd cc
there_after_push (z ∷ zs) zero y x e = inl e
there_after_push (z ∷ zs) (suc k) y x e = there_after_push zs k y x e

there_after_set : (xs : List Session) (i k : ℕ) (y x : Session) → slice_get (set xs i y) k ≡ Some x →
    (slice_get xs k ≡ Some x) ⊎ ((i ≡ k) × (y ≡ x))
there_after_set [] i k y x e = absurd cc
there_after_set (z ∷ zs) zero zero y x e = inr (refl, cc)
there_after_set (z ∷ zs) zero (suc k) y x e = inl e
there_after_set (z ∷ zs) (suc i) zero y x e = inl e
there_after_set (z ∷ zs) (suc i) (suc k) y x e =
    elim (there_after_set zs i k y x e) [ inl old ↦ inl old | inr new ↦ inr (ap suc new.0, new.1) ]

-- ---- steps

later_delivery : (w v : World) (s : Session) → Grows w v → IsLater w s → IsLater w (after_delivery v s)
later_delivery w v s g h = record {
  initiator = h.initiator;
  responder = chosen s.responder_version h.responder;
  unheard = λ e. absurd cc;
} where
  chosen : (o : Option ℕ) → IfSome o (λ n. length (node_at w s.responder_node).history ≤ n) →
      length (node_at w s.responder_node).history ≤ unwrap_or o (length (node_at v s.responder_node).history)
  chosen None h = g.longer s.responder_node
  chosen (Some n) h = h

insert_sessions : (w : World) (n : ℕ) (x : Item) (o : Option Node) → (insert_at w n x o).0.sessions ≡ w.sessions
insert_sessions w n x None = refl
insert_sessions w n x (Some node) = refl

absorb_sessions : {F : Type 0} (S : Summary F) (w : World) (side : Side) (o : Option Session) →
    (absorb_at S w side o).0.sessions ≡ w.sessions
absorb_sessions S w side None = refl
absorb_sessions S w side (Some s) =
    cond_both (has_ended S w s) _ _ (λ (p : World × Did). p.0.sessions ≡ w.sessions) (λ e. by_side side)
    (λ e. refl) where
      by_side : (side : Side) → (absorb_side S w s side).0.sessions ≡ w.sessions
      by_side Initiator = refl
      by_side Responder = refl

abbrev Later : World → List Session → Type 0
Later w sessions = (k : ℕ) (s : Session) → length w.sessions ≤ k → slice_get sessions k ≡ Some s → IsLater w s

open_later : (w v : World) (i r : ℕ) (a b : Option Node) → Grows w v → Later w v.sessions → slice_get v.nodes i ≡ a →
    Later w (open_at v i r a b).0.sessions
open_later w v i r None b g h e = h
open_later w v i r (Some a) None g h e = h
open_later w v i r (Some a) (Some b) g h e =
    cond_both (i == r) _ _ (λ (p : World × Did). Later w p.0.sessions) (λ same. h) (λ other k s new there.
    elim (there_after_push v.sessions k opened s there) [
      | inl old ↦ h k s new old
      | inr made ↦ subst (IsLater w) made fresh
    ]) where
      opened : Session
      opened = record {
        initiator_node = i;
        responder_node = r;
        initiator_version = length a.history;
        responder_version = None;
        delivered = 0;
      }

      here : node_at v i ≡ a
      here = get_or_from_slice_get v.nodes i a no_node e

      fresh : IsLater w opened
      fresh = record {
        initiator = subst (λ m. length (node_at w i).history ≤ length m.history) here (g.longer i);
        responder = tt;
        unheard = λ none. refl;
      }

deliver_later : {F : Type 0} (S : Summary F) (w v : World) (k : ℕ) (o : Option Session) → Grows w v →
    Later w v.sessions → slice_get v.sessions k ≡ o → Later w (deliver_at S v k o).0.sessions
deliver_later S w v k None g h e = h
deliver_later S w v k (Some s) g h e =
    cond_both (has_ended S v s) _ _ (λ (p : World × Did). Later w p.0.sessions) (λ over. h) (λ going n t new there.
    elim (there_after_set v.sessions k n (after_delivery v s) t there) [
      | inl old ↦ h n t new old
      | inr made ↦ subst (IsLater w) made.1 (later_delivery w v s g
          (h n s new (subst (λ m. slice_get v.sessions m ≡ Some s) made.0 e)))
    ])

step_later : {F : Type 0} (S : Summary F) (w v : World) (e : Step) → Grows w v → Later w v.sessions →
    Later w (step S v e).0.sessions
step_later S w v (Insert n x) g h = subst (Later w) (sym (insert_sessions v n x (slice_get v.nodes n))) h
step_later S w v (Open i r) g h = open_later w v i r (slice_get v.nodes i) (slice_get v.nodes r) g h refl
step_later S w v (Deliver k) g h = deliver_later S w v k (slice_get v.sessions k) g h refl
step_later S w v (Absorb k side) g h =
    subst (Later w) (sym (absorb_sessions S v side (slice_get v.sessions k))) h

follows_on : {F : Type 0} (S : Summary F) (w v : World) (steps : List Step) → Follows w v → Follows w (run S v steps)
follows_on S w v [] f = f
follows_on S w v (e ∷ es) f = follows_on S w (step S v e).0 es record {
  grows = grows_on w v (step S v e).0 f.grows (step_grows S v e);
  later = step_later S w v e f.grows f.later;
}

follows : {F : Type 0} (S : Summary F) (w : World) (steps : List Step) → Follows w (run S w steps)
follows S w steps = follows_on S w w steps record {
  grows = same_nodes w w refl;
  later = λ k s new there. past w.sessions k s new there;
} where
  past : (xs : List Session) (k : ℕ) (s : Session) → length xs ≤ k → slice_get xs k ≡ Some s → IsLater w s
  past [] k s new there = absurd cc
  past (y ∷ ys) zero s new there = absurd (omega (arith, new))
  past (y ∷ ys) (suc k) s new there = past ys k s (omega (arith, new)) there

-- ==== One leg

-- what a history had is in each later version of it
has-later : (w v : World) (n u : ℕ) (x : Item) → Grows w v → length (node_at w n).history ≤ u →
    has (items_of (node_at w n).history) x ≡ true → has (peer_at v n u).items x ≡ true
has-later w v n u x g late here =
    let h : History = (node_at w n).history in
    let f : History = (node_at v n).history in
    let whole : has (version h (length h)) x ≡ true =
    subst (λ l. has (content l) x ≡ true) (sym (take_whole h)) (has-content h x ∙ here) in
    let kept : version f (length h) ≡ version h (length h) =
    ap (λ p. p.items) (g.same n (length h) (omega arith)) in
    let within : has (version (take u f) (length h)) x ≡ true =
    ap (λ l. has (content l) x) (take-take (length h) u f late) ∙ ap (λ A. has A x) kept ∙ whole in
    has-version (take u f) (length h) x within where
      take_whole : (h : History) → take (length h) h ≡ h
      take_whole [] = refl
      take_whole (e ∷ es) = ap (λ l. e ∷ l) (take_whole es)

-- an ended session has a version of the responder's
heard : {F : Type 0} (S : Summary F) (v : World) (s : Session) → has_ended S v s ≡ true → s.delivered ≡ 0 → ⊥
heard {F} S v s ended none = by (opening S (initiator_of v s)) s.delivered ended none where
  by : (M : Message F) (d : ℕ) → (length (talk_from S (initiator_of v s) (responder_of v s) M (d + 1)) == d) ≡ true →
      d ≡ 0 → ⊥
  by M zero ended none =
      absurd (omega
      (arith, eqb-true (length (talk_from S (initiator_of v s) (responder_of v s) M 1)) 0 ended))
  by M (suc d) ended none = absurd cc

-- the item is in the version of the side that has it
said : {F : Type 0} (S : Summary F) (w v : World) (s : Session) (side : Side) (x : Item) → Follows w v → IsLater w s →
    has_ended S v s ≡ true → has (items_of (node_at w (node_of s (other_side side))).history) x ≡ true →
    (has (initiator_of v s).items x || has (responder_of v s).items x) ≡ true
said S w v s Responder x f l ended here =
    or_left _ _ (has-later w v s.initiator_node s.initiator_version x f.grows l.initiator here)
said S w v s Initiator x f l ended here =
    or_right (has (initiator_of v s).items x) _
    (has-later w v s.responder_node (unwrap_or s.responder_version 0) x f.grows (chosen s.responder_version refl) here)
  where
    chosen : (o : Option ℕ) → s.responder_version ≡ o →
        length (node_at w s.responder_node).history ≤ unwrap_or o 0
    chosen None e = absurd (heard S v s ended (l.unheard e))
    chosen (Some n) e = subst (λ o. IfSome o (λ m. length (node_at w s.responder_node).history ≤ m)) e l.responder

run_leg : {F : Type 0} (S : Summary F) (w : World) (l : Leg) →
    run S w (steps_of l) ≡ (step S (run S w l.before) (Absorb l.session l.side)).0
run_leg S w l = fold-append (λ v e. (step S v e).0) w l.before (Absorb l.session l.side ∷ [])

carried : {F : Type 0} (S : Summary F) (w : World) (from to : ℕ) (l : Leg) (x : Item) → IsExact S →
    Carries S w from to l → has (items_of (node_at w from).history) x ≡ true →
    has (items_of (node_at (run S w (steps_of l)) to).history) x ≡ true
carried S w from to l x exact c here =
    let v : World = run S w l.before in
    let f : Follows w v = follows S w l.before in
    let late : IsLater w c.session = f.later l.session c.session c.opened c.there in
    let either : (has (initiator_of v c.session).items x || has (responder_of v c.session).items x) ≡ true =
    said S w v c.session l.side x f late c.ended
    (subst (λ n. has (items_of (node_at w n).history) x ≡ true) (sym c.leaves) here) in
    let room : length (content (node_at (step S v (Absorb l.session l.side)).0 (node_of c.session l.side)).history)
    < (node_at v (node_of c.session l.side)).table.cap =
    subst (λ n. length (content (node_at (step S v (Absorb l.session l.side)).0 n).history) < (node_at v n).table.cap)
    (sym c.arrives)
    (subst (λ u. length (content (node_at u to).history) < (node_at v to).table.cap) (run_leg S w l) c.room) in
    let there : has (content (node_at (step S v (Absorb l.session l.side)).0 (node_of c.session l.side)).history) x
    ≡ true =
    absorb_claim S exact v l.session c.session l.side x c.there c.ended c.clear room either in
    subst (λ u. has (items_of (node_at u to).history) x ≡ true) (sym (run_leg S w l))
    (subst (λ n. has (items_of (node_at (step S v (Absorb l.session l.side)).0 n).history) x ≡ true) c.arrives
    (sym (has-content (node_at (step S v (Absorb l.session l.side)).0 (node_of c.session l.side)).history x) ∙ there))

-- ==== Legs one after another

run_append : {F : Type 0} (S : Summary F) (w : World) (es fs : List Step) → run S w (es ++ fs) ≡ run S (run S w es) fs
run_append S w es fs = fold-append (λ v e. (step S v e).0) w es fs

along : {F : Type 0} (S : Summary F) (w : World) (from to : ℕ) (legs : List Leg) (x : Item) → IsExact S →
    IsWay S w from legs to → has (items_of (node_at w from).history) x ≡ true →
    has (items_of (node_at (run S w (flat_map steps_of legs)) to).history) x ≡ true
along S w from to [] x exact way here =
    subst (λ n. has (items_of (node_at w n).history) x ≡ true) way here
along S w from to (l ∷ ls) x exact way here =
    subst (λ u. has (items_of (node_at u to).history) x ≡ true)
    (sym (run_append S w (steps_of l) (flat_map steps_of ls)))
    (along S (run S w (steps_of l)) way.0 to ls x exact way.1.1
    (carried S w from way.0 l x exact way.1.0 here))

-- what a history has it keeps
has-kept : {F : Type 0} (S : Summary F) (w : World) (steps : List Step) (n : ℕ) (x : Item) →
    has (items_of (node_at w n).history) x ≡ true → has (items_of (node_at (run S w steps) n).history) x ≡ true
has-kept S w steps n x here =
    let v : World = run S w steps in
    sym (has-content (node_at v n).history x)
    ∙ has-version (node_at v n).history (length (node_at w n).history) x
    (has-later w v n (length (node_at w n).history) x (follows S w steps).grows (omega arith) here)

pub spread_claim : {F : Type 0} (S : Summary F) → SpreadClaim S
spread_claim S exact w steps from to x r here =
    subst (λ es. has (items_of (node_at (run S w es) to).history) x ≡ true) r.begins
    (subst (λ u. has (items_of (node_at u to).history) x ≡ true)
    (sym (run_append S w (flat_map steps_of r.legs) r.rest))
    (has-kept S (run S w (flat_map steps_of r.legs)) r.rest to x (along S w from to r.legs x exact r.way here)))

-- ==== All with all items

-- a node that is not there has nothing
within : (w : World) (n : ℕ) (x : Item) → has (items_of (node_at w n).history) x ≡ true → n < length w.nodes
within w n x here = elim (cases_lt n (length w.nodes)) [
  | inl there ↦ there
  | inr past ↦ absurd (nothing (ap (λ m. has (items_of m.history) x) (get_or_past w.nodes n no_node past)) here)
] where
  nothing : has (items_of (node_at w n).history) x ≡ false → has (items_of (node_at w n).history) x ≡ true → ⊥
  nothing e h = cc

pub union_claim : {F : Type 0} (S : Summary F) → UnionClaim S
union_claim S exact w steps quiet reaches n x there = (λ here. came here, λ some. went some) where
  none : list_any (inserts x) steps ≡ false → list_any (inserts x) steps ≡ true → ⊥
  none e h = cc

  came : has (items_of (node_at (run S w steps) n).history) x ≡ true →
      (m : ℕ) × ((m < length w.nodes) × (has (items_of (node_at w m).history) x ≡ true))
  came here = elim (HasItem-run S x w steps n here) [
    | inl some ↦ (some.0, (within w some.0 x some.1, some.1))
    | inr put ↦ absurd (none (quiet x) put)
  ]

  went : (m : ℕ) × ((m < length w.nodes) × (has (items_of (node_at w m).history) x ≡ true)) →
      has (items_of (node_at (run S w steps) n).history) x ≡ true
  went some = spread_claim S exact w steps some.0 n x (reaches some.0 n some.1.0 there) some.1.1
