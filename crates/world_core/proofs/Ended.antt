-- What is seen of a session by what is kept of it: its report, and what its sides learned.
use Rattle.std.proofs.Common.{◌≡◌, refl, sym, ap, ◌∙◌, subst, arith, ℕ, ◌<◌, ◌≤◌, List, Option, Some, None}
use Rattle.std.proofs.Common.{get_or, take}
use Rattle.std.specs.Prelude.{slice_get, IfSome, IfOk, OnOk, OnErr, Result, Ok, Err, option_map, length, true, false}
use Rattle.std.specs.Prelude.{◌==◌}
use Rattle.std.proofs.lemmas.List.{set-get_or}
use Rattle.std.proofs.lemmas.Option.{slice_get-map, slice_get_read}
use Rattle.std.proofs.lemmas.Bool.{ne_eqb}
use Rattle.definitions.proofs.Words.{World, Node, Item, End, node_at, no_node, has_ended, initiator_of, responder_of}
use Rattle.definitions.proofs.Words.{absorb_at, absorb_side, set_of, message_bound, opened_of, rank_of, responder_at}
use Rattle.definitions.proofs.Lemmas.{cond-true, cond-false, eq-eqb}
use Rattle.definitions.specs.Ranks.{rank_by}
use Rattle.definitions.specs.Talks.{Knowledge}
use Rattle.definitions.specs.Theorems.{node_of}
use Rattle.definitions.specs.Worlds as worlds
use Rattle.definitions.specs.Fingerprints.{Summary}
use Rattle.laws.specs.Sessions.{Tells}
use Rattle.ends_core.specs.EndStates.{EndState}
use Rattle.world_core.specs.declared.session.RunSession.{RunSession}
use Rattle.world_core.specs.Live.{session_of, kept_of, made, IsKept, world_of, IsRunning}
use Rattle.world_core.specs.Steps.{absorbing, absorbed_at, theirs_of, AbsorbsSome}
use Rattle.world_core.specs.Shown.{learned_by, bound_by, opened_held, rank_held, shown}
use Rattle.world_core.specs.Laws.{Laws}
use Rattle.world_core.proofs.Delivering.{kept_at, tells_at, ended_at, few_at}

-- what a look into a slice of the sessions found
pub looked_at : {F : Type 0} (lives seen : List (RunSession F)) (k : ℕ) (l : RunSession F) → seen ≡ lives →
    k < length seen → l ≡ get_or seen k l → slice_get lives k ≡ Some l
looked_at lives seen k l same low read =
    subst (λ xs. slice_get xs k ≡ Some l) same (slice_get_read seen _ k l refl low read)

module _ {F : Type 0} (S : Summary F) where
  -- ==== What is learned

  learned_is : (w : World) (l : RunSession F) (side : worlds.Side) → Tells S w (session_of l) (kept_of l) →
      theirs_of S w (session_of l) side ≡ set_of (learned_by l side).theirs
  learned_is w l worlds.Initiator t = ap (λ k. set_of k.theirs) (sym t.initiator_learned)
  learned_is w l worlds.Responder t = ap (λ k. set_of k.theirs) (sym t.responder_learned)

  pub side_there : (nodes : List Node) (lives : List (RunSession F)) (k : ℕ) (l : RunSession F) (side : worlds.Side) →
      IsRunning S nodes lives → slice_get lives k ≡ Some l →
      node_of (session_of l) side < length nodes
  side_there nodes lives k l worlds.Initiator runs here = (kept_at S nodes lives k l runs here).keeps.initiator_there
  side_there nodes lives k l worlds.Responder runs here = (kept_at S nodes lives k l runs here).keeps.responder_there

  found_in : (nodes : List Node) (lives : List (RunSession F)) (k : ℕ) (l : RunSession F) → slice_get lives k ≡ Some l →
      slice_get (world_of nodes lives).sessions k ≡ Some (session_of l)
  found_in nodes lives k l here = slice_get-map session_of lives k ∙ ap (option_map session_of) here

  pub absorb_idle : Laws S → (w : World) (nodes : List Node) (lives : List (RunSession F)) (k : ℕ) (l : RunSession F)
      (side : worlds.Side) → world_of nodes lives ≡ w → IsRunning S nodes lives → slice_get lives k ≡ Some l →
      l.delivered < made l → absorb_at S w side (slice_get w.sessions k) ≡ (w, worlds.Idle)
  absorb_idle laws w nodes lives k l side v runs here more =
      let u : World = world_of nodes lives in
      let going : has_ended S u (session_of l) ≡ false = ended_at S laws nodes lives k l runs here
      ∙ ne_eqb (made l) l.delivered (λ e. omega arith) in
      subst (λ t. absorb_at S t side (slice_get t.sessions k) ≡ (t, worlds.Idle)) v
      (ap (absorb_at S u side) (found_in nodes lives k l here) ∙ cond-false (has_ended S u (session_of l)) _ _ going)

  -- each message that was made was delivered
  over_at : Laws S → (w : World) (nodes : List Node) (lives : List (RunSession F)) (k : ℕ) (l : RunSession F) →
      world_of nodes lives ≡ w → IsRunning S nodes lives →
      slice_get lives k ≡ Some l → made l ≤ l.delivered → has_ended S w (session_of l) ≡ true
  over_at laws w nodes lives k l e runs here less =
      subst (λ t. has_ended S t (session_of l) ≡ true) e
      (ended_at S laws nodes lives k l runs here
      ∙ eq-eqb (made l) l.delivered (omega (arith, few_at S laws nodes lives k l runs here)))

  by_side : (w : World) (s : worlds.Session) (side : worlds.Side) →
      absorb_side S w s side ≡ (
        absorbing w (node_of s side) (node_at w (node_of s side))
            (theirs_of S w s side),
        worlds.Absorbed (absorbed_at w (node_of s side) (theirs_of S w s side)).added,
      )
  by_side w s worlds.Initiator = refl
  by_side w s worlds.Responder = refl

  -- what the side of an ended session learned goes into its node
  pub absorb_is : Laws S → (w : World) (nodes : List Node) (lives : List (RunSession F)) (k : ℕ) (l : RunSession F)
      (side : worlds.Side) (items : List Item) → world_of nodes lives ≡ w → IsRunning S nodes lives →
      slice_get lives k ≡ Some l → made l ≤ l.delivered → items ≡ set_of (learned_by l side).theirs →
      absorb_at S w side (slice_get w.sessions k)
      ≡ (
        absorbing w (node_of (session_of l) side) (node_at w (node_of (session_of l) side)) items,
        worlds.Absorbed
            (absorbed_at w (node_of (session_of l) side) items).added,
      )
  absorb_is laws w nodes lives k l side items v runs here less learned =
      let u : World = world_of nodes lives in
      let s : worlds.Session = session_of l in
      let over : has_ended S u s ≡ true = over_at laws u nodes lives k l refl runs here less in
      let same : theirs_of S u s side ≡ items = learned_is u l side (tells_at S laws nodes lives k l runs here)
      ∙ sym learned in
      subst (λ t. absorb_at S t side (slice_get t.sessions k)
      ≡ (
        absorbing t (node_of s side) (node_at t (node_of s side)) items,
        worlds.Absorbed
            (absorbed_at t (node_of s side) items).added,
      )) v
      (ap (absorb_at S u side) (found_in nodes lives k l here) ∙ cond-true (has_ended S u s) _ _ over ∙ by_side u s side
      ∙ ap (λ xs. (
        absorbing u (node_of s side) (node_at u (node_of s side)) xs,
        worlds.Absorbed
            (absorbed_at u (node_of s side) xs).added,
      )) same)

  -- where memory runs out, some were put in
  pub absorbs_some : Laws S → (w v : World) (nodes : List Node) (lives : List (RunSession F)) (k : ℕ) (l : RunSession F)
      (side : worlds.Side) (items : List Item) (count : ℕ) → world_of nodes lives ≡ w → IsRunning S nodes lives →
      slice_get lives k ≡ Some l → made l ≤ l.delivered → items ≡ set_of (learned_by l side).theirs →
      v ≡ absorbing w (node_of (session_of l) side) (node_at w (node_of (session_of l) side)) (take count items) →
      AbsorbsSome S w k side v
  absorbs_some laws w v nodes lives k l side items count e runs here less learned is =
      let u : World = world_of nodes lives in
      let s : worlds.Session = session_of l in
      let same : items ≡ theirs_of S u s side = learned
      ∙ sym (learned_is u l side (tells_at S laws nodes lives k l runs here)) in
      let found : slice_get w.sessions k ≡ Some s = subst (λ t. slice_get t.sessions k ≡ Some s) e
      (found_in nodes lives k l here) in
      let over : has_ended S w s ≡ true = over_at laws w nodes lives k l e runs here less in (
        s,
        count,
        found,
        over,
        is
            ∙ ap (λ xs. absorbing w (node_of s side) (node_at w (node_of s side)) (take count xs))
            (subst (λ t. items ≡ theirs_of S t s side) e same),
      )

  abbrev with_all : World → List Node → World
  with_all w ns = record w { nodes = ns }

  pub absorbs_none : Laws S →
      (w : World) (nodes : List Node) (lives : List (RunSession F)) (k : ℕ) (l : RunSession F) (side : worlds.Side) →
      world_of nodes lives ≡ w → IsRunning S nodes lives →
      slice_get lives k ≡ Some l → made l ≤ l.delivered → AbsorbsSome S w k side w
  absorbs_none laws w nodes lives k l side e runs here less =
      let s : worlds.Session = session_of l in
      let found : slice_get w.sessions k ≡ Some s = subst (λ t. slice_get t.sessions k ≡ Some s) e
      (found_in nodes lives k l here) in (
        s,
        0,
        found,
        over_at laws w nodes lives k l e runs here less,
        ap (λ ns. with_all w ns) (sym (set-get_or w.nodes (node_of s side) no_node)),
      )

  -- ==== The report

  bounds_same : (w : World) (s : worlds.Session) (i : ℕ) (second : Option (EndState F)) (version : Option ℕ)
      (f : ℕ → End F) →
      option_map (λ h. h.end) second ≡ option_map f version →
      IfSome second (λ h. h.steps ≡ (node_at w s.responder_node).steps) →
      IfSome (option_map (λ h. h.end) second) (λ e. e.peer ≡ responder_of w s) →
      option_map (λ h. message_bound i (rank_held h)) second
      ≡ option_map (λ v. message_bound i (rank_of (node_at w s.responder_node).steps (responder_of w s))) version
  bounds_same w s i None None f e a b = refl
  bounds_same w s i None (Some v) f e a b = absurd cc
  bounds_same w s i (Some h) None f e a b = absurd cc
  bounds_same w s i (Some h) (Some v) f e a b =
      ap (λ r. Some (message_bound i r)) (ap (λ steps. rank_by steps (length h.end.peer.items)) a
      ∙ ap (λ p. rank_by (node_at w s.responder_node).steps (length p.items)) b)

  same_report : (a b : worlds.Report) → a.initiator_node ≡ b.initiator_node → a.responder_node ≡ b.responder_node →
      a.messages ≡ b.messages → a.bound ≡ b.bound → a.parts ≡ b.parts → a.ended ≡ b.ended →
      a.initiator_learned ≡ b.initiator_learned → a.responder_learned ≡ b.responder_learned → a ≡ b
  same_report a b e f g h p i j k =
      λ t. record {
        initiator_node = e t;
        responder_node = f t;
        messages = g t;
        bound = h t;
        parts = p t;
        ended = i t;
        initiator_learned = j t;
        responder_learned = k t;
      }

  shown_is : (w : World) (l : RunSession F) → IsKept S w l → Tells S w (session_of l) (kept_of l) →
      shown S l ≡ worlds.report_of S w (session_of l)
  shown_is w l k t =
      let s : worlds.Session = session_of l in
      let first : opened_held S l.first ≡ opened_of S (node_at w l.initiator_node).steps (initiator_of w s) =
      ap (λ steps. opened_of S steps l.first.end.peer) k.first
      ∙ ap (opened_of S (node_at w l.initiator_node).steps) t.initiator in
      let bound : bound_by S l ≡ (worlds.report_of S w s).bound =
      bounds_same w s (opened_held S l.first) l.second l.responder_version
      (λ v. responder_at S (initiator_of w s) (responder_of w s) s.delivered) k.keeps.responder k.second t.responder
      ∙ ap (λ i. option_map (λ v. message_bound i
      (rank_of (node_at w l.responder_node).steps (responder_of w s))) l.responder_version) first in
      same_report (shown S l) (worlds.report_of S w s) refl refl t.count bound k.keeps.parts
      (ap (λ n. n == l.delivered) t.count) t.initiator_learned t.responder_learned

  pub report_is : Laws S → (w : World) (nodes : List Node) (lives : List (RunSession F)) (k : ℕ) (l : RunSession F) →
      world_of nodes lives ≡ w → IsRunning S nodes lives → slice_get lives k ≡ Some l →
      Some (shown S l) ≡ worlds.report S w k
  report_is laws w nodes lives k l e runs here =
      subst (λ t. Some (shown S l) ≡ worlds.report S t k) e
      (ap Some (shown_is (world_of nodes lives) l (kept_at S nodes lives k l runs here)
      (tells_at S laws nodes lives k l runs here))
      ∙ sym (ap (option_map (worlds.report_of S (world_of nodes lives))) (found_in nodes lives k l here)))

-- ==== What putting them in makes of it

pub absorbed_world : {D E : Type 0} (r : Result D E) (w v : World) (n m : ℕ) (xs ys : List Item)
    (p : World × worlds.Did) → OnOk r (v ≡ absorbing w n (node_at w n) xs) → n ≡ m → xs ≡ ys →
    p ≡ (absorbing w m (node_at w m) ys, worlds.Absorbed (absorbed_at w m ys).added) → OnOk r (v ≡ p.0)
absorbed_world (Ok d) w v n m xs ys p ok same items is =
    ok ∙ ap (λ k. absorbing w k (node_at w k) xs) same ∙ ap (absorbing w m (node_at w m)) items ∙ sym (ap (λ q. q.0) is)
absorbed_world (Err d) w v n m xs ys p ok same items is = tt

pub absorbed_did : {D E : Type 0} (f : D → worlds.Did) (r : Result D E) (w : World) (n m : ℕ) (xs ys : List Item)
    (p : World × worlds.Did) → IfOk r (λ d. f d ≡ worlds.Absorbed (absorbed_at w n xs).added) → n ≡ m → xs ≡ ys →
    p ≡ (absorbing w m (node_at w m) ys, worlds.Absorbed (absorbed_at w m ys).added) → IfOk r (λ d. f d ≡ p.1)
absorbed_did f (Ok d) w n m xs ys p ok same items is =
    ok ∙ ap (λ k. worlds.Absorbed (absorbed_at w k xs).added) same
    ∙ ap (λ zs. worlds.Absorbed (absorbed_at w m zs).added) items ∙ sym (ap (λ q. q.1) is)
absorbed_did f (Err d) w n m xs ys p ok same items is = tt

pub absorbed_memory : {F : Type 0} (S : Summary F) {D E : Type 0} (r : Result D E) → Laws S →
    (w v : World) (nodes : List Node) (lives : List (RunSession F)) (k : ℕ) (l : RunSession F) (side : worlds.Side)
    (n : ℕ) (xs : List Item) → world_of nodes lives ≡ w → IsRunning S nodes lives →
    slice_get lives k ≡ Some l → made l ≤ l.delivered → xs ≡ set_of (learned_by l side).theirs →
    n ≡ node_of (session_of l) side →
    OnErr r ((count : ℕ) × (v ≡ absorbing w n (node_at w n) (take count xs))) → OnErr r (AbsorbsSome S w k side v)
absorbed_memory S (Ok d) laws w v nodes lives k l side n xs e runs here less learned same err = tt
absorbed_memory S (Err d) laws w v nodes lives k l side n xs e runs here less learned same err =
    absorbs_some S laws w v nodes lives k l side xs err.0 e runs here less learned
    (err.1 ∙ ap (λ m. absorbing w m (node_at w m) (take err.0 xs)) same)

-- what was learned, by what is shown of it
pub same_theirs : (items : List Item) (k m : Knowledge) → items ≡ set_of k.theirs → k ≡ m → items ≡ set_of m.theirs
same_theirs items k m is same = is ∙ ap (λ n. set_of n.theirs) same

pub OnErr-any : {D E : Type 0} (r : Result D E) (P : Type 0) → P → OnErr r P
OnErr-any (Ok d) P p = tt
OnErr-any (Err d) P p = p
