-- What holds of each run, and of each step, by the laws.
use Rattle.std.proofs.Common.{◌≡◌, sym, ap, ◌∙◌, subst, arith, true, ◌+◌, ◌++◌, List, slice_get, take}
use Rattle.std.specs.Prelude.{Result, Ok, Err, OnOk, unwrap_or}
use Rattle.definitions.proofs.Words.{AllByRecursion, World, Session, Node, Step, IsExact, run, start, step, Headline}
use Rattle.definitions.proofs.Words.{HistoryClaim, AbsorbClaim, CostClaim, CostsLittle, SessionsEnd, deliveries}
use Rattle.definitions.proofs.Words.{has_ended, KnowledgeIsSound, KnowsNothingWrong, IsSound, IsSet, Item, set_of}
use Rattle.definitions.proofs.Words.{node_at, items_of, messages, initiator_of, responder_of, initiator_knows}
use Rattle.definitions.proofs.Words.{responder_knows, talk, has}
use Rattle.definitions.proofs.Lemmas.{All-both, fold-append}
use Rattle.definitions.specs.Worlds as worlds
use Rattle.definitions.specs.Fingerprints.{Summary}
use Rattle.laws.specs.Turns.{TalksBegin}
use Rattle.laws.specs.Spreading.{SpreadClaim}
use Rattle.world_core.specs.declared.session.RunSession as live
use Rattle.world_core.specs.Live.{IsRunning, world_of}
use Rattle.world_core.specs.Runs.{Came, LearnsNothingWrong, Holds, ComesFrom, HasItemsOfRuns, EndsByDeliveries}
use Rattle.world_core.specs.Runs.{AbsorbsAll, SpreadsIn}

module _ {F : Type 0} (S : Summary F) where
  -- what is learned so far is what is learned of the talk so far
  nothing_wrong : KnowledgeIsSound S → TalksBegin S → ((xs : List Item) → IsSet (set_of xs)) →
      (w : World) (s : Session) → LearnsNothingWrong S w s
  nothing_wrong law begin sets w s =
      let both = law (initiator_of w s) (responder_of w s) s.delivered
      (sets (items_of (take s.initiator_version (node_at w s.initiator_node).history)))
      (sets (items_of (take (unwrap_or s.responder_version 0) (node_at w s.responder_node).history))) in
      let part : take s.delivered (messages S w s)
      ≡ talk S (initiator_of w s) (responder_of w s) s.delivered = begin (initiator_of w s)
      (responder_of w s) s.delivered (s.delivered + 1) (omega arith) in (
        subst (λ Ms. KnowsNothingWrong (initiator_knows (initiator_of w s).items Ms) (initiator_of w s).items
            (responder_of w s).items) (sym part) both.0,
        subst (λ Ms. KnowsNothingWrong (responder_knows (responder_of w s).items Ms) (responder_of w s).items
            (initiator_of w s).items) (sym part) both.1,
      )

  -- what the laws say of each run
  pub record RunLaws : Type 0 where
    pub exact : IsExact S
    pub headline : Headline S
    pub knowledge : KnowledgeIsSound S
    pub begin : TalksBegin S
    pub cost : CostClaim S
    pub sets : (xs : List Item) → IsSet (set_of xs)

  came_hold : RunLaws → (w : World) → Came S w → AllByRecursion (Holds S w) w.sessions
  came_hold laws w c =
      let u : World = run S (start c.nodes) c.steps in
      let each : (s : Session) → IsSound S u s → CostsLittle S u s → Holds S u s = λ s h c. record {
        few = h.few_messages;
        bound = h.reported;
        short = h.short_lists;
        both = h.exact_knowledge laws.exact;
        sound = nothing_wrong laws.knowledge laws.begin laws.sets u s;
        cost = c;
      } in
      subst (λ v. AllByRecursion (Holds S v) v.sessions) (sym c.is)
      (All-both (IsSound S u) (CostsLittle S u) (Holds S u) each u.sessions (laws.headline c.nodes c.steps c.ready)
      (laws.cost laws.exact u))

  -- of each session of a world that runs
  pub all_hold : RunLaws → (w : World) (nodes : List Node) (lives : List (live.RunSession F)) →
      world_of nodes lives ≡ w → IsRunning S nodes lives → AllByRecursion (Holds S w) w.sessions
  all_hold laws w nodes lives e runs =
      subst (λ u. AllByRecursion (Holds S u) u.sessions) e (came_hold laws (world_of nodes lives) runs.came)

  -- some steps made a world that runs
  pub has_come : (w : World) (nodes : List Node) (lives : List (live.RunSession F)) → world_of nodes lives ≡ w →
      IsRunning S nodes lives → Came S w
  has_come w nodes lives e runs = subst (Came S) e runs.came

  -- and each item of it is one of whatever run made it
  pub items_of_runs : HistoryClaim S → (w : World) → HasItemsOfRuns S w
  items_of_runs law w = λ nodes steps e. subst (ComesFrom nodes steps) (sym e) (law nodes steps)

  -- what travels along the last steps arrives
  pub spreads_in : SpreadClaim S → IsExact S → (nodes : List Node) (steps : List Step) (w : World) →
      w ≡ run S (start nodes) steps → SpreadsIn S nodes steps w
  spreads_in law exact nodes steps w is before along from to x parts r here =
      let u : World = run S (start nodes) before in
      let same : w ≡ run S u along =
      is ∙ ap (run S (start nodes)) (sym parts) ∙ fold-append (λ v e. (step S v e).0) (start nodes) before along in
      subst (λ v. has (items_of (node_at v to).history) x ≡ true) (sym same) (law exact u along from to x r here)

  -- and deliveries end each session of it
  pub ends_by : SessionsEnd S → IsExact S → (w : World) → Came S w → EndsByDeliveries S w
  ends_by law exact w c = λ k n s many found.
      let u : World = run S (start c.nodes) (c.steps ++ deliveries n k) in
      let v : World = run S w (deliveries n k) in
      let same : u ≡ v =
      fold-append (λ x e. (step S x e).0) (start c.nodes) c.steps (deliveries n k)
      ∙ ap (λ x. run S x (deliveries n k)) (sym c.is) in
      subst (λ x. has_ended S x s ≡ true) same
      (law exact c.nodes c.steps k n s c.ready many (ap (λ x. slice_get x.sessions k) same ∙ found))

  absorbs_all : AbsorbClaim S → IsExact S → (w : World) (e : Step) → AbsorbsAll S w e (step S w e).0
  absorbs_all law exact w (worlds.Insert n x) = tt
  absorbs_all law exact w (worlds.Open i r) = tt
  absorbs_all law exact w (worlds.Deliver k) = tt
  absorbs_all law exact w (worlds.Absorb k side) = λ s x. law exact w k s side x

  pub absorbs_by : {D E : Type 0} (r : Result D E) → AbsorbClaim S → IsExact S → (w v : World) (e : Step) →
      OnOk r (v ≡ (step S w e).0) → OnOk r (AbsorbsAll S w e v)
  absorbs_by (Ok d) law exact w v e ok = subst (AbsorbsAll S w e) (sym ok) (absorbs_all law exact w e)
  absorbs_by (Err f) law exact w v e ok = tt
