-- That what holds of each world holds after each step.
use Rattle.std.proofs.Common.{◌≡◌, refl, sym, ap, ◌∙◌, subst, arith, ℕ, ◌<◌, List, [], ◌∷◌, ◌++◌, length, map, set}
use Rattle.std.proofs.Common.{get_or, Option, Some, None}
use Rattle.std.specs.Prelude.{slice_get, slice_index_or, IfSome, ◌==◌, Result, Ok, Err, IfOk, OnOk, OnErr}
use Rattle.std.proofs.lemmas.List.{set-get_or}
use Rattle.std.proofs.lemmas.Option.{slice_get-get_or}
use Rattle.std.proofs.lemmas.Bool.{ne_eqb}
use Rattle.definitions.proofs.Words.{AllByRecursion, World, Node, History, node_at, no_node, with_history, insert_at}
use Rattle.definitions.proofs.Words.{step, start, Item, IsNode, insertion, history_after}
use Rattle.definitions.proofs.Lemmas.{cond-false, map-append, length-map, cases_eq, cases_lt, get_or-set_same}
use Rattle.definitions.proofs.Lemmas.{get_or-set_other, set_past, get_or_from_slice_get, All-map, All-append}
use Rattle.definitions.proofs.Lemmas.{fold-append}
use Rattle.definitions.specs.Worlds.{Insert, Open, Deliver, told, open_at}
use Rattle.definitions.specs.Worlds as worlds
use Rattle.definitions.specs.Fingerprints.{Summary}
use Rattle.laws.specs.Sessions.{Keeps, SessionsStay, SessionsOpen, SessionsKeepNodes}
use Rattle.ends_core.specs.EndStates.{EndState}
use Rattle.world_core.specs.declared.session.RunSession.{RunSession}
use Rattle.world_core.specs.Live.{session_of, kept_of, IsKept, world_of, IsRunning, beginning}
use Rattle.world_core.specs.Runs.{Came}

-- ==== Nodes keep their staircases

with_history-steps : (w : World) (n : ℕ) (node : Node) (h : History) (m : ℕ) → node_at w n ≡ node →
    (node_at (with_history w n node h) m).steps ≡ (node_at w m).steps
with_history-steps w n node h m e = grind (arith, set, set_past, get_or-set_same, cases_eq, cases_lt, get_or-set_other)

insert_at-steps : (w : World) (n : ℕ) (x : Item) (found : Option Node) → slice_get w.nodes n ≡ found → (m : ℕ) →
    (node_at (insert_at w n x found).0 m).steps ≡ (node_at w m).steps
insert_at-steps w n x None e m = refl
insert_at-steps w n x (Some node) e m = with_history-steps w n node _ m (get_or_from_slice_get w.nodes n node no_node e)

module _ {F : Type 0} (S : Summary F) where
  -- ==== What some steps made

  -- one step more
  pub came_on : (w v : World) (e : worlds.Step) → v ≡ (step S w e).0 → Came S w → Came S v
  came_on w v e is c = record {
    nodes = c.nodes;
    steps = c.steps ++ e ∷ [];
    ready = c.ready;
    is = is ∙ ap (λ u. (step S u e).0) c.is
        ∙ sym (fold-append (λ u s. (step S u s).0) (start c.nodes) c.steps (e ∷ []));
  }

  -- ==== What is kept stays

  steps_stay : (o : Option (EndState F)) (a b : List ℕ) → b ≡ a → IfSome o (λ h. h.steps ≡ a) →
      IfSome o (λ h. h.steps ≡ b)
  steps_stay None a b e h = tt
  steps_stay (Some x) a b e h = h ∙ sym e

  pub IsKept-stays : (w v : World) (l : RunSession F) →
      ((s : worlds.Session) → Keeps S w s (kept_of l) → Keeps S v s (kept_of l)) →
      ((n : ℕ) → (node_at v n).steps ≡ (node_at w n).steps) → IsKept S w l → IsKept S v l
  IsKept-stays w v l stays same h = record {
    keeps = stays (session_of l) h.keeps;
    first = h.first ∙ sym (same l.initiator_node);
    second =
        steps_stay l.second (node_at w l.responder_node).steps (node_at v l.responder_node).steps
        (same l.responder_node) h.second;
    first_none = h.first_none;
    second_none = h.second_none;
  }

  pub All-kept : (w v : World) → ((l : RunSession F) → IsKept S w l → IsKept S v l) → (lives : List (RunSession F)) →
      AllByRecursion (IsKept S w) lives → AllByRecursion (IsKept S v) lives
  All-kept w v stays lives h = All-map (IsKept S w) (IsKept S v) stays lives h

  abbrev the_world : List Node → List worlds.Session → World
  the_world nodes ss = record { nodes = nodes; sessions = ss }

  -- ==== An item that is put in

  -- an insert changes the nodes alone
  insert_at-nodes : (w : World) (n : ℕ) (x : Item) (found : Option Node) →
      the_world (insert_at w n x found).0.nodes w.sessions ≡ (insert_at w n x found).0
  insert_at-nodes w n x None = refl
  insert_at-nodes w n x (Some node) = refl

  pub insert_keeps : SessionsStay S → SessionsKeepNodes S →
      (nodes after : List Node) (lives : List (RunSession F)) (n : ℕ) (x : Item) →
      after ≡ (insert_at (world_of nodes lives) n x (slice_get nodes n)).0.nodes → IsRunning S nodes lives →
      IsRunning S after lives
  insert_keeps stay keep nodes after lives n x e h =
      let w : World = world_of nodes lives in
      let v : World = world_of after lives in
      let stayed = stay w (Insert n x) in
      record {
        ready = subst (AllByRecursion IsNode) (sym e) (stayed.nodes h.ready);
        kept = All-kept w v (λ l k. IsKept-stays w v l
            (λ s h. keep (step S w (Insert n x)).0 v s (kept_of l) e (stayed.kept s (kept_of l) h))
            (λ m. ap (λ ns. (slice_index_or ns m no_node).steps) e
            ∙ insert_at-steps w n x (slice_get nodes n) refl m) k) lives h.kept;
        came = came_on w v (Insert n x)
            (ap (λ ns. the_world ns w.sessions) e ∙ insert_at-nodes w n x (slice_get nodes n)) h.came;
      }

  -- the node after an insert
  abbrev with_item : Node → Item → Node
  with_item node x = record node { history = history_after node.history 0 x (insertion node.table.cap node.history x) }

  set_same : (nodes : List Node) (n : ℕ) (node : Node) → slice_get nodes n ≡ Some node → set nodes n node ≡ nodes
  set_same nodes n node e =
      ap (set nodes n) (sym (get_or_from_slice_get nodes n node no_node e)) ∙ set-get_or nodes n no_node

  insert_at_some : (w : World) (n : ℕ) (x : Item) (node : Node) → slice_get w.nodes n ≡ Some node →
      insert_at w n x (slice_get w.nodes n) ≡ insert_at w n x (Some node)
  insert_at_some w n x node e = ap (insert_at w n x) e

  -- what an insert into a node, of which memory may run out, makes of the world
  pub insert_runs : {D E : Type 0} → SessionsStay S → SessionsKeepNodes S →
      (r : Result D E) (nodes : List Node) (lives : List (RunSession F)) (n : ℕ) (x : Item) (node m : Node) →
      slice_get nodes n ≡ Some node → OnOk r (m ≡ with_item node x) → OnErr r (m ≡ node) → IsRunning S nodes lives →
      IsRunning S (set nodes n m) lives
  insert_runs stay keep (Ok d) nodes lives n x node m e ok err h =
      insert_keeps stay keep nodes (set nodes n m) lives n x
      (ap (set nodes n) ok ∙ sym (ap (λ p. p.0.nodes) (insert_at_some (world_of nodes lives) n x node e))) h
  insert_runs stay keep (Err d) nodes lives n x node m e ok err h =
      subst (λ ns. IsRunning S ns lives) (sym (ap (set nodes n) err ∙ set_same nodes n node e)) h

  pub insert_world : {D E : Type 0} (r : Result D E) (w : World) (nodes : List Node) (lives : List (RunSession F))
      (n : ℕ) (x : Item) (node m : Node) →
      world_of nodes lives ≡ w → slice_get nodes n ≡ Some node → OnOk r (m ≡ with_item node x) →
      OnOk r (world_of (set nodes n m) lives ≡ (insert_at w n x (slice_get w.nodes n)).0)
  insert_world (Ok d) w nodes lives n x node m v e ok =
      subst (λ u. world_of (set nodes n m) lives ≡ (insert_at u n x (slice_get u.nodes n)).0) v
      (ap (λ k. world_of (set nodes n k) lives) ok
      ∙ sym (ap (λ p. p.0) (insert_at_some (world_of nodes lives) n x node e)))
  insert_world (Err d) w nodes lives n x node m v e ok = tt

  pub insert_did : {D E : Type 0} (f : D → worlds.Did) (r : Result D E) (w : World) (nodes : List Node)
      (lives : List (RunSession F)) (n : ℕ) (x : Item) (node : Node) →
      world_of nodes lives ≡ w → slice_get nodes n ≡ Some node →
      IfOk r (λ did. f did ≡ told (insertion node.table.cap node.history x)) →
      IfOk r (λ did. f did ≡ (insert_at w n x (slice_get w.nodes n)).1)
  insert_did f (Ok d) w nodes lives n x node v e ok =
      subst (λ u. f d ≡ (insert_at u n x (slice_get u.nodes n)).1) v
      (ok ∙ sym (ap (λ p. p.1) (insert_at_some (world_of nodes lives) n x node e)))
  insert_did f (Err d) w nodes lives n x node v e ok = tt

  pub insert_same : {D E : Type 0} (r : Result D E) (w : World) (nodes : List Node) (lives : List (RunSession F))
      (n : ℕ) (node m : Node) →
      world_of nodes lives ≡ w → slice_get nodes n ≡ Some node → OnErr r (m ≡ node) →
      OnErr r (world_of (set nodes n m) lives ≡ w)
  insert_same (Ok d) w nodes lives n node m v e err = tt
  insert_same (Err d) w nodes lives n node m v e err =
      ap (λ ns. world_of ns lives) (ap (set nodes n) err ∙ set_same nodes n node e) ∙ v

  -- ==== A session that is opened

  -- what an open makes of the world
  pub open_world : (w : World) (nodes : List Node) (lives : List (RunSession F)) (i r : ℕ) (node : Node) →
      world_of nodes lives ≡ w →
      slice_get nodes i ≡ Some node → (i ≡ r → ⊥) → r < length nodes →
      open_at w i r (slice_get w.nodes i) (slice_get w.nodes r)
      ≡ (world_of nodes (lives ++ beginning S i r node ∷ []), worlds.Opened (length lives))
  open_world w nodes lives i r node v e apart there =
      let b : Node = get_or nodes r no_node in
      let u : World = world_of nodes lives in
      let f : slice_get nodes r ≡ Some b = slice_get-get_or nodes r no_node there in
      let new : List worlds.Session = session_of (beginning S i r node) ∷ [] in
      let joined : map session_of lives ++ new ≡ map session_of (lives ++ beginning S i r node ∷ []) = sym
      (map-append session_of lives (beginning S i r node ∷ [])) in
      let opened : open_at u i r (slice_get nodes i) (slice_get nodes r)
      ≡ (world_of nodes (lives ++ beginning S i r node ∷ []), worlds.Opened (length lives)) =
      ap (λ o. open_at u i r o (slice_get nodes r)) e ∙ ap (λ o. open_at u i r (Some node) o) f
      ∙ cond-false (i == r) _ _ (ne_eqb i r apart)
      ∙ ap (λ ss. (the_world nodes ss, worlds.Opened (length (map session_of lives)))) joined
      ∙ ap (λ n. (world_of nodes (lives ++ beginning S i r node ∷ []), worlds.Opened n))
      (length-map lives session_of) in
      subst (λ t. open_at t i r (slice_get t.nodes i) (slice_get t.nodes r)
      ≡ (world_of nodes (lives ++ beginning S i r node ∷ []), worlds.Opened (length lives))) v opened

  pub open_runs : SessionsOpen S → SessionsKeepNodes S →
      (nodes : List Node) (lives : List (RunSession F)) (i r : ℕ) (node : Node) →
      slice_get nodes i ≡ Some node → (i ≡ r → ⊥) → i < length nodes → r < length nodes →
      IsRunning S nodes lives → IsRunning S nodes (lives ++ beginning S i r node ∷ [])
  open_runs begin keep nodes lives i r node e apart here there h =
      let w : World = world_of nodes lives in
      let v : World = world_of nodes (lives ++ beginning S i r node ∷ []) in
      let it : node_at w i ≡ node = get_or_from_slice_get nodes i node no_node e in
      let stays : (l : RunSession F) → IsKept S w l →
      IsKept S v l = λ l k. IsKept-stays w v l (λ s h. keep w v s (kept_of l) refl h) (λ m. refl) k in
      let new : Keeps S w (session_of (beginning S i r node)) (kept_of (beginning S i r node)) =
      subst (λ m. Keeps S w (session_of (beginning S i r m)) (kept_of (beginning S i r m))) it
      (begin w i r here there) in
      record {
        ready = h.ready;
        kept = All-append (IsKept S v) lives (beginning S i r node ∷ []) (All-kept w v stays lives h.kept) (
          stays (beginning S i r node) (record {
            keeps = new;
            first = ap (λ m. m.steps)
                (sym it);
            second = tt;
            first_none = refl;
            second_none = tt;
          }),
          tt,
        );
        came =
            came_on w v (Open i r) (sym (ap (λ p. p.0) (open_world w nodes lives i r node refl e apart there))) h.came;
      }
