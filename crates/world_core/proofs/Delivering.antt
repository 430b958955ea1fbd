-- What a delivery makes of a world.
use Rattle.std.proofs.Common.{◌≡◌, refl, sym, ap, ◌∙◌, subst, arith, ℕ, zero, suc, ◌<◌, ◌≤◌, List, [], ◌∷◌, map, set}
use Rattle.std.proofs.Common.{get_or, Option, Some, None, if◌then◌else◌}
use Rattle.std.specs.Prelude.{slice_get, slice_set, IfSome, option_map, unwrap_or, length, Bool, true, false, ◌==◌}
use Rattle.std.specs.Prelude.{Result, Ok, Err, IfOk, OnOk, OnErr}
use Rattle.std.proofs.lemmas.List.{map-set, set-get_or}
use Rattle.std.proofs.lemmas.Option.{slice_get-map, slice_get_read}
use Rattle.std.proofs.lemmas.Bool.{ne_eqb}
use Rattle.definitions.proofs.Words.{AllByRecursion, World, Node, node_at, no_node, has_ended, Message}
use Rattle.definitions.proofs.Words.{has_open, answer, after, Replies, Ends, Refuses, responder, reply}
use Rattle.definitions.proofs.Lemmas.{cond-true, cond-false, eq-eqb, get_or_from_slice_get}
use Rattle.definitions.specs.Ends.{Answer}
use Rattle.definitions.specs.Worlds.{Deliver, deliver_at, after_delivery}
use Rattle.definitions.specs.Worlds as worlds
use Rattle.definitions.specs.Fingerprints.{Summary}
use Rattle.laws.specs.Growing.{is_even}
use Rattle.laws.specs.Sessions.{Kept, Keeps, GoesOnBy, Tells, hearer_now, kept_after}
use Rattle.ends_core.specs.EndStates.{EndState, HasNone}
use Rattle.world_core.specs.declared.session.RunSession.{RunSession}
use Rattle.world_core.specs.Laws.{Laws, DeliveryLaws}
use Rattle.world_core.specs.Nodes.{newest}
use Rattle.world_core.specs.Live.{session_of, kept_of, made, IsKept, world_of, IsRunning, IsTaken, last_by, parts_by}
use Rattle.world_core.specs.Live.{did_by, responder_from, hearer, heard_by}
use Rattle.world_core.proofs.Running.{came_on, IsKept-stays, All-kept}

-- ==== Lists

pub All-found : {X : Type 0} (P : X → Type 0) (xs : List X) (k : ℕ) (x : X) →
    slice_get xs k ≡ Some x → AllByRecursion P xs → P x
All-found P [] k x e h = absurd cc
All-found P (y ∷ ys) zero x e h = let same : y ≡ x = cc in subst P same h.0
All-found P (y ∷ ys) (suc k) x e h = All-found P ys k x e h.1

All-set : {X : Type 0} (P : X → Type 0) (xs : List X) (k : ℕ) (x : X) → P x → AllByRecursion P xs →
    AllByRecursion P (set xs k x)
All-set P [] k x p h = tt
All-set P (y ∷ ys) zero x p h = (p, h.1)
All-set P (y ∷ ys) (suc k) x p h = (h.0, All-set P ys k x p h.1)

set_found : {X : Type 0} (xs : List X) (k : ℕ) (x : X) → slice_get xs k ≡ Some x → set xs k x ≡ xs
set_found xs k x e = ap (set xs k) (sym (get_or_from_slice_get xs k x x e)) ∙ set-get_or xs k x

module _ {F : Type 0} (S : Summary F) where
  -- ==== The session after a delivery

  from_same : (node : Node) (o : Option (EndState F)) →
      (responder_from S node o).end ≡ unwrap_or (option_map (λ h. h.end) o) (responder S (newest node))
  from_same node None = refl
  from_same node (Some h) = refl

  from_steps : (node : Node) (o : Option (EndState F)) → IfSome o (λ h. h.steps ≡ node.steps) →
      (responder_from S node o).steps ≡ node.steps
  from_steps node None h = refl
  from_steps node (Some x) h = h

  from_none : (node : Node) (o : Option (EndState F)) → IfSome o HasNone → HasNone (responder_from S node o)
  from_none node None h = refl
  from_none node (Some x) h = h

  -- its parts, where the responder hears and where the initiator does
  pub record IsHeard (w : World) (l : RunSession F) (node : Node) : Type 0 where
    pub hears : (hearer S l node).end ≡ hearer_now S w (session_of l) (kept_of l)
    pub session : session_of (heard_by S l node) ≡ after_delivery w (session_of l)
    pub kept : kept_of (heard_by S l node) ≡ kept_after (session_of l) (kept_of l)
        (after S (hearer_now S w (session_of l) (kept_of l)) l.last)
        (last_by l.last (answer S (hearer S l node).end l.last)) (parts_by l.parts (answer S (hearer S l node).end
        l.last))
    pub first : (heard_by S l node).first.steps ≡ l.first.steps
    pub second : IfSome l.second (λ h. h.steps ≡ node.steps) →
        IfSome (heard_by S l node).second (λ h. h.steps ≡ node.steps)
    pub first_none : HasNone l.first → HasNone (heard_by S l node).first
    pub second_none : IfSome l.second HasNone → IfSome (heard_by S l node).second HasNone
    pub hearer_none : HasNone l.first → IfSome l.second HasNone → HasNone (hearer S l node)
    pub responder : (heard_by S l node).responder_node ≡ l.responder_node
    pub initiator : (heard_by S l node).initiator_node ≡ l.initiator_node

  heard : (w : World) (l : RunSession F) (b : Bool) → is_even l.delivered ≡ b → IsHeard w l (node_at w l.responder_node)
  heard w l true e =
      let from = from_same (node_at w l.responder_node) l.second in
      record {
        hears = rw e from;
        session = rw e refl;
        kept = rw (e, from) refl;
        first = rw e refl;
        second = λ h. rw e (from_steps (node_at w l.responder_node) l.second h);
        first_none = λ h. rw e h;
        second_none = λ h. rw e refl;
        hearer_none = λ f h. rw e (from_none (node_at w l.responder_node) l.second h);
        responder = rw e refl;
        initiator = rw e refl;
      }
  heard w l false e = record {
    hears = rw e refl;
    session = rw e refl;
    kept = rw e refl;
    first = rw e refl;
    second = λ h. rw e h;
    first_none = λ h. rw e refl;
    second_none = λ h. rw e h;
    hearer_none = λ f h. rw e f;
    responder = rw e refl;
    initiator = rw e refl;
  }

  -- ==== What the hearer answers

  refused_if : {F : Type 0} (b : Bool) (M : Message F) (code : ℕ) → Refuses code ≡ (if b then Replies M else Ends) → ⊥
  refused_if true M code e = cc
  refused_if false M code e = cc

  pub record Goes (w : World) (s : worlds.Session) (k : Kept F) (a : Answer F) : Type 0 where
    pub taken : IsTaken a
    pub keeps : Keeps S w (after_delivery w s)
        (kept_after s k (after S (hearer_now S w s k) k.last) (last_by k.last a) (parts_by k.parts a))
    pub did : did_by a ≡ (if has_ended S w (after_delivery w s) then worlds.Over else worlds.Sent)

  goes : (w : World) (s : worlds.Session) (k : Kept F) (a : Answer F) → GoesOnBy S w s k →
      answer S (hearer_now S w s k) k.last ≡ a → Goes w s k a
  goes w s k (Replies N) g e =
      let on = g.replied N e in
      record {
        taken = tt;
        keeps = on.0;
        did = sym
            (cond-false (has_ended S w (after_delivery w s)) worlds.Over worlds.Sent on.1);
      }
  goes w s k Ends g e =
      let on = g.ended e in
      record {
        taken = tt;
        keeps = on.0;
        did = sym
            (cond-true (has_ended S w (after_delivery w s)) worlds.Over worlds.Sent on.1);
      }
  goes w s k (Refuses code) g e =
      absurd (refused_if (has_open k.last) (reply S (hearer_now S w s k).peer k.last) code (sym e ∙ g.taken))

  -- ==== A session of a world that runs

  -- the session at its place, of which there is more to deliver, and its responder's node
  pub record IsAt (nodes : List Node) (lives : List (RunSession F)) (k : ℕ) (l : RunSession F) (node : Node) :
      Type 0 where
    pub runs : IsRunning S nodes lives
    pub here : slice_get lives k ≡ Some l
    pub more : l.delivered < made l
    pub it : node_at (world_of nodes lives) l.responder_node ≡ node

  pub kept_at : (nodes : List Node) (lives : List (RunSession F)) (k : ℕ) (l : RunSession F) → IsRunning S nodes lives →
      slice_get lives k ≡ Some l → IsKept S (world_of nodes lives) l
  kept_at nodes lives k l runs here = All-found (IsKept S (world_of nodes lives)) lives k l here runs.kept

  pub tells_at : Laws S → (nodes : List Node) (lives : List (RunSession F)) (k : ℕ) (l : RunSession F) →
      IsRunning S nodes lives → slice_get lives k ≡ Some l →
      Tells S (world_of nodes lives) (session_of l) (kept_of l)
  tells_at laws nodes lives k l runs here =
      laws.tell laws.exact (world_of nodes lives) (session_of l) (kept_of l) runs.ready
      (kept_at nodes lives k l runs here).keeps

  -- by the number of messages it is seen whether it has ended
  pub ended_at : Laws S → (nodes : List Node) (lives : List (RunSession F)) (k : ℕ) (l : RunSession F) →
      IsRunning S nodes lives → slice_get lives k ≡ Some l →
      has_ended S (world_of nodes lives) (session_of l) ≡ (made l == l.delivered)
  ended_at laws nodes lives k l runs here =
      ap (λ n. n == l.delivered) (sym (tells_at laws nodes lives k l runs here).count)

  pub few_at : Laws S → (nodes : List Node) (lives : List (RunSession F)) (k : ℕ) (l : RunSession F) →
      IsRunning S nodes lives → slice_get lives k ≡ Some l → l.delivered ≤ made l
  few_at laws nodes lives k l runs here =
      let t = tells_at laws nodes lives k l runs here in omega (arith, t.count, t.delivered)

  goes_at : DeliveryLaws S → (nodes : List Node) (lives : List (RunSession F)) (k : ℕ) (l : RunSession F)
      (node : Node) → IsAt nodes lives k l node →
      Goes (world_of nodes lives) (session_of l) (kept_of l) (answer S (hearer S l node).end l.last)
      × IsHeard (world_of nodes lives) l node
  goes_at laws nodes lives k l node at =
      let w : World = world_of nodes lives in
      let going : has_ended S w (session_of l) ≡ false = ended_at laws.look nodes lives k l at.runs at.here
      ∙ ne_eqb (made l) l.delivered (λ e. omega (arith, at.more)) in
      let g = laws.go_on laws.look.exact w (session_of l) (kept_of l) at.runs.ready
      (kept_at nodes lives k l at.runs at.here).keeps going in
      let is : IsHeard w l node = subst (IsHeard w l) at.it (heard w l (is_even l.delivered) refl) in (
        goes w (session_of l) (kept_of l) (answer S (hearer S l node).end l.last) g
            (ap (λ e. answer S e l.last) (sym is.hears)),
        is,
      )

  pub deliver_taken : DeliveryLaws S → (nodes : List Node) (lives : List (RunSession F)) (k : ℕ) (l : RunSession F)
      (node : Node) → IsAt nodes lives k l node →
      IsTaken (answer S (hearer S l node).end l.last)
  deliver_taken laws nodes lives k l node at = (goes_at laws nodes lives k l node at).0.taken

  pub deliver_none : (nodes : List Node) (lives : List (RunSession F)) (k : ℕ) (l : RunSession F) (node : Node) →
      IsAt nodes lives k l node → HasNone (hearer S l node)
  deliver_none nodes lives k l node at =
      let kept = kept_at nodes lives k l at.runs at.here in
      (subst (IsHeard (world_of nodes lives) l) at.it
      (heard (world_of nodes lives) l (is_even l.delivered) refl)).hearer_none kept.first_none kept.second_none

  -- ==== The world after it

  abbrev delivered_to : World → ℕ → worlds.Session → World
  delivered_to w k s = record w { sessions = slice_set w.sessions k (after_delivery w s) }

  -- what the definitions make of it
  deliver_some : (w : World) (k : ℕ) (s : worlds.Session) → slice_get w.sessions k ≡ Some s → has_ended S w s ≡ false →
      deliver_at S w k (slice_get w.sessions k)
      ≡ (delivered_to w k s, (if has_ended S w (after_delivery w s) then worlds.Over else worlds.Sent))
  deliver_some w k s e going = ap (deliver_at S w k) e ∙ cond-false (has_ended S w s) _ _ going

  found_at : (nodes : List Node) (lives : List (RunSession F)) (k : ℕ) (l : RunSession F) → slice_get lives k ≡ Some l →
      slice_get (world_of nodes lives).sessions k ≡ Some (session_of l)
  found_at nodes lives k l here = slice_get-map session_of lives k ∙ ap (option_map session_of) here

  abbrev with_sessions : List Node → List worlds.Session → World
  with_sessions nodes ss = record { nodes = nodes; sessions = ss }

  both_made : DeliveryLaws S → (nodes : List Node) (lives : List (RunSession F)) (k : ℕ) (l : RunSession F)
      (node : Node) → IsAt nodes lives k l node →
      deliver_at S (world_of nodes lives) k (slice_get (world_of nodes lives).sessions k)
      ≡ (world_of nodes (set lives k (heard_by S l node)), did_by (answer S (hearer S l node).end l.last))
  both_made laws nodes lives k l node at =
      let w : World = world_of nodes lives in
      let both = goes_at laws nodes lives k l node at in
      let going : has_ended S w (session_of l) ≡ false = ended_at laws.look nodes lives k l at.runs at.here
      ∙ ne_eqb (made l) l.delivered (λ e. omega (arith, at.more)) in
      let same : map session_of (set lives k (heard_by S l node))
      ≡ set (map session_of lives) k (after_delivery w (session_of l)) =
      map-set session_of lives k (heard_by S l node) ∙ ap (set (map session_of lives) k) both.1.session in
      deliver_some w k (session_of l) (found_at nodes lives k l at.here) going
      ∙ ap (λ d. (delivered_to w k (session_of l), d)) (sym both.0.did)
      ∙ ap (λ ss. (with_sessions nodes ss, did_by (answer S (hearer S l node).end l.last))) (sym same)

  heard_runs : DeliveryLaws S → (nodes : List Node) (lives : List (RunSession F)) (k : ℕ) (l : RunSession F)
      (node : Node) → IsAt nodes lives k l node →
      IsRunning S nodes (set lives k (heard_by S l node))
  heard_runs laws nodes lives k l node at =
      let w : World = world_of nodes lives in
      let l' : RunSession F = heard_by S l node in
      let v : World = world_of nodes (set lives k l') in
      let both = goes_at laws nodes lives k l node at in
      let was = kept_at nodes lives k l at.runs at.here in
      let stays : (m : RunSession F) → IsKept S w m →
      IsKept S v m = λ m h. IsKept-stays S w v m (λ s g. laws.keep w v s (kept_of m) refl g) (λ n. refl) h in
      let new : IsKept S w l' = record {
        keeps = rw (both.1.session, both.1.kept) both.0.keeps;
        first = both.1.first ∙ was.first ∙ ap (λ n. (node_at w n).steps) (sym both.1.initiator);
        second =
            subst (λ r. IfSome l'.second (λ h. h.steps ≡ (node_at w r).steps)) (sym both.1.responder)
            (subst (λ n. IfSome l'.second (λ h. h.steps ≡ n.steps)) (sym at.it)
            (both.1.second (subst (λ n. IfSome l.second (λ h. h.steps ≡ n.steps)) at.it was.second)));
        first_none = both.1.first_none was.first_none;
        second_none = both.1.second_none was.second_none;
      } in
      record {
        ready = at.runs.ready;
        kept = All-set (IsKept S v) lives k l' (stays l' new) (All-kept S w v stays lives at.runs.kept);
        came =
            came_on S w v (Deliver k) (sym (ap (λ p. p.0) (both_made laws nodes lives k l node at))) at.runs.came;
      }

  pub deliver_runs : {D E : Type 0} (r : Result D E) → DeliveryLaws S →
      (nodes : List Node) (lives : List (RunSession F)) (k : ℕ) (l m : RunSession F) (node : Node) →
      IsAt nodes lives k l node →
      OnOk r (m ≡ heard_by S l node) → OnErr r (m ≡ l) → IsRunning S nodes (set lives k m)
  deliver_runs (Ok d) laws nodes lives k l m node at ok err =
      subst (λ z. IsRunning S nodes (set lives k z)) (sym ok) (heard_runs laws nodes lives k l node at)
  deliver_runs (Err d) laws nodes lives k l m node at ok err =
      subst (IsRunning S nodes) (sym (ap (set lives k) err ∙ set_found lives k l at.here)) at.runs

  pub deliver_world : {D E : Type 0} (r : Result D E) → DeliveryLaws S →
      (w : World) (nodes : List Node) (lives : List (RunSession F)) (k : ℕ) (l m : RunSession F) (node : Node) →
      world_of nodes lives ≡ w →
      IsAt nodes lives k l node → OnOk r (m ≡ heard_by S l node) →
      OnOk r (world_of nodes (set lives k m) ≡ (deliver_at S w k (slice_get w.sessions k)).0)
  deliver_world (Ok d) laws w nodes lives k l m node v at ok =
      subst (λ u. world_of nodes (set lives k m) ≡ (deliver_at S u k (slice_get u.sessions k)).0) v
      (ap (λ z. world_of nodes (set lives k z)) ok ∙ sym (ap (λ p. p.0) (both_made laws nodes lives k l node at)))
  deliver_world (Err d) laws w nodes lives k l m node v at ok = tt

  pub deliver_did : {D E : Type 0} (f : D → worlds.Did) (r : Result D E) → DeliveryLaws S →
      (w : World) (nodes : List Node) (lives : List (RunSession F)) (k : ℕ) (l : RunSession F) (node : Node) →
      world_of nodes lives ≡ w →
      IsAt nodes lives k l node →
      IfOk r (λ d. f d ≡ did_by (answer S (hearer S l node).end l.last)) →
      IfOk r (λ d. f d ≡ (deliver_at S w k (slice_get w.sessions k)).1)
  deliver_did f (Ok d) laws w nodes lives k l node v at ok =
      subst (λ u. f d ≡ (deliver_at S u k (slice_get u.sessions k)).1) v
      (ok ∙ sym (ap (λ p. p.1) (both_made laws nodes lives k l node at)))
  deliver_did f (Err d) laws w nodes lives k l node v at ok = tt

  pub deliver_same : {D E : Type 0} (r : Result D E) (w : World) (nodes : List Node) (lives : List (RunSession F))
      (k : ℕ) (l m : RunSession F) → world_of nodes lives ≡ w →
      slice_get lives k ≡ Some l → OnErr r (m ≡ l) → OnErr r (world_of nodes (set lives k m) ≡ w)
  deliver_same (Ok d) w nodes lives k l m v here err = tt
  deliver_same (Err d) w nodes lives k l m v here err =
      ap (world_of nodes) (ap (set lives k) err ∙ set_found lives k l here) ∙ v

  pub deliver_idle : Laws S → (w : World) (nodes : List Node) (lives : List (RunSession F)) (k : ℕ) (l : RunSession F) →
      world_of nodes lives ≡ w → IsRunning S nodes lives → slice_get lives k ≡ Some l →
      made l ≤ l.delivered → deliver_at S w k (slice_get w.sessions k) ≡ (w, worlds.Idle)
  deliver_idle laws w nodes lives k l v runs here less =
      let u : World = world_of nodes lives in
      let over : has_ended S u (session_of l) ≡ true = ended_at laws nodes lives k l runs here
      ∙ eq-eqb (made l) l.delivered (omega (arith, few_at laws nodes lives k l runs here)) in
      subst (λ t. deliver_at S t k (slice_get t.sessions k) ≡ (t, worlds.Idle)) v
      (ap (deliver_at S u k) (found_at nodes lives k l here) ∙ cond-true (has_ended S u (session_of l)) _ _ over)

  pub idle_world : Laws S → (w : World) (nodes : List Node) (lives : List (RunSession F)) (k : ℕ) (l : RunSession F) →
      world_of nodes lives ≡ w → IsRunning S nodes lives → slice_get lives k ≡ Some l →
      made l ≤ l.delivered → world_of nodes (set lives k l) ≡ (deliver_at S w k (slice_get w.sessions k)).0
  idle_world laws w nodes lives k l v runs here less =
      ap (world_of nodes) (set_found lives k l here) ∙ v
      ∙ sym (ap (λ p. p.0) (deliver_idle laws w nodes lives k l v runs here less))

  -- what was looked up at its place, and the node of its responder, as it is read
  pub is_at : (nodes : List Node) (lives : List (RunSession F)) (k n : ℕ) (l : RunSession F) (node : Node) →
      IsRunning S nodes lives → k < length lives → l ≡ get_or lives k l → n ≡ made l → l.delivered < n →
      node ≡ get_or nodes l.responder_node node → IsAt nodes lives k l node
  is_at nodes lives k n l node runs low found all more read =
      let here = slice_get_read lives (length lives) k l refl low found in
      let there : l.responder_node < length nodes = (kept_at nodes lives k l runs here).keeps.responder_there in
      record {
        runs = runs;
        here = here;
        more = subst (λ (m : ℕ). l.delivered < m) all more;
        it =
            get_or_from_slice_get nodes l.responder_node node no_node
            (slice_get_read nodes (length nodes) l.responder_node node refl there read);
      }
