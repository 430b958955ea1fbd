-- What holds of an end, since it is what some messages made of one at its start.
use Rattle.std.proofs.Common.{◌≡◌, ℕ, ◌≤◌, ◌<◌, ◌+◌, Bool, true, false, refl, List, [], ◌∷◌, ◌++◌, length, sym, ap, ◌∙◌}
use Rattle.std.proofs.Common.{subst, slice_index, Option, Some, None, IfSome, IfNone, arith}
use Rattle.std.specs.List.{AllByRecursion}
use Rattle.definitions.proofs.Lemmas.{All-append, fold-append}
use Rattle.std.specs.Prelude.{fold, if◌then◌else◌}
use Rattle.definitions.specs.Fingerprints.{Summary}
use Rattle.definitions.specs.Messages.{Part, Message}
use Rattle.definitions.specs.Ranks.{ranks_by, rank_by}
use Rattle.definitions.specs.Replies.{Peer}
use Rattle.definitions.specs.Wire.{Profile, IsPart}
use Rattle.definitions.specs.Ends.{End, Stage, Fresh, Waits, Over, Spent, Answer, Replies, Ends, Refuses, after}
use Rattle.definitions.specs.Ends.{after_answer, answer, answer_unless, stage_fault, heard, is_live}
use Rattle.definitions.specs.Placing.{Place, First, After, Refused, next, finish, refusal}
use Rattle.definitions.specs.Refusals.{spent}
use Rattle.definitions.specs.Taking.{nothing_taken, taken, taken_all, ended, ended_unless, after_ended, by_parts}
use Rattle.definitions.specs.Talks.{nothing}
use Rattle.laws.specs.Taking.{PartsAreTaken}
use Rattle.definitions.specs.Sets.{IsSet}
use Rattle.definitions.specs.Theorems.{AreParts, Ready, opened, rank, StandsFirm, EndsStandFirm, EndsHearOn}
use Rattle.definitions.specs.Theorems.{EndsKeepPeers}
use Rattle.definitions.specs.Worlds.{Side, Initiator, Responder}
use Rattle.strategy_check.specs.Checked.{IsChecked}
use Rattle.ends_core.specs.EndStates.{EndState, IsAble}
use Rattle.ends_core.specs.Roles.{start_of, bound_of}
use Rattle.laws.proofs.Openings.{opened-le, opened_is}
use Rattle.ends_core.specs.Standing.{Stands, Came}
use Rattle.ends_core.specs.Turns.{end_after, after_end, after_part, after_parts, after_message, fresh, spend}
use Rattle.ends_core.proofs.Parts_taken.{message-end, dead-spends}

abbrev pub ranks_of : {F : Type 0} → EndState F → List ℕ
ranks_of h = ranks_by h.steps h.end.peer.table.cap

abbrev pub ReadsRanks : Type 0
ReadsRanks = (steps : List ℕ) (cap n : ℕ) → n ≤ cap → slice_index (ranks_by steps cap) n ≡ rank_by steps n

module _ {F : Type 0} (S : Summary F) (Q : Profile F) where
  -- how many messages either side sends
  abbrev pub most_of : Side → List ℕ → Peer → ℕ
  most_of Initiator f P = opened S f P + 2
  most_of Responder f P = rank f P + 1

  -- as its staircase and its table tell it
  most_is : (side : Side) → ReadsRanks → (steps : List ℕ) (P : Peer) → Ready P (ranks_by steps P.table.cap) →
      most_of side (ranks_by steps P.table.cap) P ≡ bound_of side S.may_cut P.table steps (length P.items)
  most_is Initiator read steps P r = ap (λ n. n + 2) (opened_is S steps P r)
  most_is Responder read steps P r = ap (λ n. n + 1) (read steps P.table.cap (length P.items) r.room)

  -- no more than 2 above its rank
  most_le : (side : Side) (f : List ℕ) (P : Peer) → Ready P f → most_of side f P ≤ rank f P + 2
  most_le Initiator f P r = omega (arith, opened-le S P f r)
  most_le Responder f P r = omega arith

  -- what the law says of either side
  keeps_firm : (side : Side) → EndsStandFirm S → (P : Peer) (f : List ℕ) (Ms : List (Message F)) → Ready P f →
      AllByRecursion (AreParts Q) Ms → StandsFirm (most_of side f P) (heard S (start_of side S P) Ms)
  keeps_firm Initiator law P f Ms r a = (law Q P f Ms r a).0
  keeps_firm Responder law P f Ms r a = (law Q P f Ms r a).1

  ready : (side : Side) (h : EndState F) → Stands S Q (start_of side S) h → Ready h.end.peer (ranks_of h)
  ready side h s = record { ranks = s.checked.serving.ranks; set = s.set; room = s.room }

  pub firm : (side : Side) (h : EndState F) → EndsStandFirm S → Stands S Q (start_of side S) h →
      StandsFirm (most_of side (ranks_of h) h.end.peer) h.end
  firm side h law s =
      subst (StandsFirm (most_of side (ranks_of h) h.end.peer)) (sym s.came.2)
      (keeps_firm side law h.end.peer (ranks_of h) s.came.0 (ready side h s) s.came.1)

  pub few : (side : Side) (h : EndState F) → EndsStandFirm S → ReadsRanks → Stands S Q (start_of side S) h →
      h.end.sent ≤ bound_of side S.may_cut h.end.peer.table h.steps (length h.end.peer.items)
  few side h law read s =
      omega (arith, (firm side h law s).few, most_is side read h.steps h.end.peer (ready side h s))

  pub able : (side : Side) (h : EndState F) → EndsStandFirm S → Stands S Q (start_of side S) h → IsAble h
  able side h law s = record { checked = s.checked; room = s.room; apart = (firm side h law s).apart }

  pub countable : (side : Side) (h : EndState F) → EndsStandFirm S → ReadsRanks → Stands S Q (start_of side S) h →
      h.end.sent < 4294967295
  countable side h law read s =
      let n = length h.end.peer.items in
      let cap = h.end.peer.table.cap in
      omega (
        arith,
        (firm side h law s).few,
        most_le side (ranks_of h) h.end.peer (ready side h s),
        s.checked.serving.ranks.rises n cap s.room
            (omega arith),
        read h.steps cap n s.room,
        read h.steps cap cap
            (omega arith),
        s.checked.within,
        s.checked.is_table.rounds,
      )

  -- ---- a message that ended

  -- the end after the end of a message is the end after the message
  after-end : (h : EndState F) (M : Message F) → PartsAreTaken S → h.taken ≡ taken_all S h.end M →
      is_live h.end.stage ≡ true → after_end h (ended h.taken) ≡ end_after S h M
  after-end h M law took live =
      let e = h.end in
      let alike = law e M in
      let told : ended h.taken ≡ answer S e M = ap ended took ∙ alike.at_the_end in
      let after_is : after S e M ≡ after_answer e M (answer S e M) = ap
      (λ b. if b then after_answer e M (answer S e M) else e) live in
      ap (after_end h) told ∙ by (answer S e M)
      (ap (λ t. after_ended e t (answer S e M)) took ∙ alike.after_it ∙ sym after_is) where
        by : (a : Answer F) → after_ended h.end h.taken a ≡ after S h.end M → after_end h a ≡ end_after S h M
        by (Replies N) is = ap (fresh h.steps) is
        by Ends is = ap (fresh h.steps) is
        by (Refuses code) is =
            ap (λ b. if b then fresh h.steps (record h.end { stage = Spent; learned = nothing }) else h) live
            ∙ ap (fresh h.steps) is

  -- an end that takes none refuses each message
  dead-answer : (e : End F) (M : Message F) → is_live e.stage ≡ false → answer S e M ≡ Refuses spent
  dead-answer e M none = by e.stage none where
    by : (s : Stage F) → is_live s ≡ false → answer_unless S e.peer M (stage_fault s M) ≡ Refuses spent
    by (Fresh cut) none = absurd cc
    by (Waits own) none = absurd cc
    by Over none = refl
    by Spent none = refl

  came-after : (start : Peer → End F) (e : End F) (M : Message F) → EndsHearOn S → (after S e M).peer ≡ e.peer →
      AreParts Q M → Came S Q start e → Came S Q start (after S e M)
  came-after start e M on same m came = (
    came.0 ++ M ∷ [],
    All-append (AreParts Q) came.0 (M ∷ []) came.1 (m, tt),
    ap (λ x. after S x M) came.2 ∙ sym (on (start e.peer) came.0 M)
        ∙ ap (λ P. heard S (start P) (came.0 ++ M ∷ [])) (sym same),
  )

  -- after a message nothing is taken
  stands-after : (start : Peer → End F) (h : EndState F) (M : Message F) → EndsHearOn S → EndsKeepPeers S →
      AreParts Q M → Stands S Q start h → Stands S Q start (end_after S h M)
  stands-after start h M on keep m s =
      let same = keep h.end (M ∷ []) in
      record {
        checked = subst (λ P. IsChecked (record { table = P.table; steps = h.steps })) (sym same) s.checked;
        room = subst (λ P. length P.items ≤ P.table.cap) (sym same) s.room;
        set = subst (λ P. IsSet P.items) (sym same) s.set;
        came = came-after start h.end M on same m s.came;
        took = ([], tt, refl);
      }

  -- nor once the parts are given up
  pub stands-dropped : (start : Peer → End F) (h new : EndState F) → new ≡ fresh h.steps h.end → Stands S Q start h →
      Stands S Q start new
  stands-dropped start h new is s =
      subst (Stands S Q start) (sym is) (record {
        checked = s.checked;
        room = s.room;
        set = s.set;
        came = s.came;
        took =
            ([], tt, refl);
      })

  -- ---- what a call leaves

  abbrev pub Lawful : Type 0
  Lawful = EndsHearOn S × EndsKeepPeers S × PartsAreTaken S

  -- after the end of a message
  ended-stands : (start : Peer → End F) (h : EndState F) → Lawful → Stands S Q start h →
      Stands S Q start (after_end h (ended h.taken))
  ended-stands start h law s = by (is_live h.end.stage) refl where
    by : (b : Bool) → is_live h.end.stage ≡ b → Stands S Q start (after_end h (ended h.taken))
    by true live =
        subst (Stands S Q start) (sym (after-end h s.took.0 law.2 s.took.2 live))
        (stands-after start h s.took.0 law.0 law.1 s.took.1 s)
    by false none =
        let alike = law.2 h.end s.took.0 in
        let refuses : ended h.taken ≡ Refuses spent = ap ended s.took.2 ∙ alike.at_the_end
        ∙ dead-answer h.end s.took.0 none in
        subst (λ a. Stands S Q start (after_end h a)) (sym refuses)
        (subst (Stands S Q start) (sym (ap (λ b. if b then fresh h.steps
        (record h.end { stage = Spent; learned = nothing }) else h) none)) s)

  pub stands-ended : (start : Peer → End F) (old new : EndState F) (o : Option (Answer F)) → Lawful →
      IfSome o (λ a. a ≡ ended old.taken) → IfSome o (λ a. new ≡ after_end old a) → IfNone o (new ≡ old) →
      Stands S Q start old → Stands S Q start new
  stands-ended start old new None law some after_it none s = subst (Stands S Q start) (sym none) s
  stands-ended start old new (Some a) law some after_it none s =
      subst (Stands S Q start) (sym (after_it ∙ ap (after_end old) some)) (ended-stands start old law s)

  -- after a part
  refused-finish : (x : Place F) (code : ℕ) → refusal x ≡ Some code → finish x ≡ Some code
  refused-finish (First cut) code e = absurd cc
  refused-finish (After left inside) code e = absurd cc
  refused-finish (Refused n) code e = e

  -- a part that is refused leaves the end as a message of these parts does
  part-spends : (h : EndState F) (M : Message F) (p : Part F) (code : ℕ) → PartsAreTaken S →
      h.taken ≡ taken_all S h.end M →
      is_live h.end.stage ≡ true →
      refusal (next h.taken.place p) ≡ Some code → spend h ≡ end_after S h (M ++ p ∷ [])
  part-spends h M p code law took live refuses =
      let e = h.end in
      let N : Message F = M ++ p ∷ [] in
      let g : EndState F = record h { taken = taken S e h.taken p } in
      let took_more : g.taken ≡ taken_all S e N = ap (λ t. taken S e t p) took
      ∙ sym (fold-append (taken S e) (nothing_taken e) M (p ∷ [])) in
      let stops : ended g.taken ≡ Refuses code = ap (ended_unless g.taken)
      (refused-finish (next h.taken.place p) code refuses) in
      let at : after_end g (Refuses code) ≡ end_after S h N = ap (after_end g) (sym stops)
      ∙ after-end g N law took_more live in
      let spent_by : EndState F = fresh h.steps (record e { stage = Spent; learned = nothing }) in
      ap (λ b. if b then spent_by else h) live ∙ sym (ap (λ b. if b then spent_by else g) live) ∙ at

  part-stands : (start : Peer → End F) (h : EndState F) (p : Part F) (o : Option ℕ) → Lawful → IsPart Q p →
      o ≡ refusal (next h.taken.place p) → Stands S Q start h → Stands S Q start (after_part S h p o)
  part-stands start h p None law part told s = record {
    checked = s.checked;
    room = s.room;
    set = s.set;
    came = s.came;
    took = (
      s.took.0 ++ p ∷ [],
      All-append (IsPart Q) s.took.0 (p ∷ []) s.took.1 (part, tt),
      ap (λ t. taken S h.end t p) s.took.2 ∙ sym (fold-append (taken S h.end) (nothing_taken h.end) s.took.0 (p ∷ [])),
    );
  }
  part-stands start h p (Some code) law part told s = by (is_live h.end.stage) refl where
    by : (b : Bool) → is_live h.end.stage ≡ b → Stands S Q start (spend h)
    by true live =
        subst (Stands S Q start) (sym (part-spends h s.took.0 p code law.2 s.took.2 live (sym told)))
        (stands-after start h (s.took.0 ++ p ∷ []) law.0 law.1
        (All-append (IsPart Q) s.took.0 (p ∷ []) s.took.1 (part, tt)) s)
    by false none =
        subst (Stands S Q start) (sym (ap (λ b. if b then fresh h.steps
        (record h.end { stage = Spent; learned = nothing }) else h) none)) s

  pub stands-taken : (start : Peer → End F) (old new : EndState F) (p : Part F) (o : Option (Option ℕ)) → Lawful →
      IsPart Q p →
      IfSome o (λ r. r ≡ refusal (next old.taken.place p)) → IfSome o (λ r. new ≡ after_part S old p r) →
      IfNone o (new ≡ old) → Stands S Q start old → Stands S Q start new
  stands-taken start old new p None law part told after_it none s = subst (Stands S Q start) (sym none) s
  stands-taken start old new p (Some r) law part told after_it none s =
      subst (Stands S Q start) (sym after_it) (part-stands start old p r law part told s)

  -- at the start
  pub stands-first : (start : Peer → End F) (h : EndState F) (steps : List ℕ) (P : Peer) → h ≡ fresh steps (start P) →
      (start P).peer ≡ P →
      IsChecked (record { table = P.table; steps = steps }) → length P.items ≤ P.table.cap → IsSet P.items →
      Stands S Q start h
  stands-first start h steps P is same checked room set = subst (Stands S Q start) (sym is) (record {
    checked = subst (λ Q. IsChecked (record { table = Q.table; steps = steps })) (sym same) checked;
    room = subst (λ Q. length Q.items ≤ Q.table.cap) (sym same) room;
    set = subst (λ Q. IsSet Q.items) (sym same) set;
    came = ([], tt, ap start (sym same));
    took = ([], tt, refl);
  })

  -- after a message, after the parts that were taken before
  parts-stand : (start : Peer → End F) (h : EndState F) (M : Message F) → AreParts Q M → Stands S Q start h →
      Stands S Q start (after_parts S h M)
  parts-stand start h M m s = record {
    checked = s.checked;
    room = s.room;
    set = s.set;
    came = s.came;
    took = (
      s.took.0 ++ M,
      All-append (IsPart Q) s.took.0 M s.took.1 m,
      ap (λ t. fold (taken S h.end) t M) s.took.2
          ∙ sym (fold-append (taken S h.end) (nothing_taken h.end) s.took.0 M),
    );
  }

  pub stands-received : (start : Peer → End F) (old new : EndState F) (M : Message F) (o : Option (Answer F)) → Lawful →
      AreParts Q M → IfSome o (λ a. a ≡ by_parts S old.end old.taken M) →
      IfSome o (λ a. new ≡ after_message S old M a) → IfNone o (new ≡ fresh old.steps old.end) → Stands S Q start old →
      Stands S Q start new
  stands-received start old new M None law m some at none s = stands-dropped start old new none s
  stands-received start old new M (Some a) law m some at none s = by (is_live old.end.stage) refl where
    g : EndState F
    g = after_parts S old M

    through : Stands S Q start g
    through = parts-stand start old M m s

    told : a ≡ ended g.taken
    told = some ∙ (law.2 old.end M).from_any old.taken

    by : (b : Bool) → is_live old.end.stage ≡ b → Stands S Q start new
    by true live =
        subst (Stands S Q start) (sym (at ∙ message-end S old M a live ∙ ap (after_end g) told))
        (ended-stands start g law through)
    by false dead =
        let all = through.took in
        let refuses : a ≡ Refuses spent =
        told ∙ ap ended all.2 ∙ (law.2 old.end all.0).at_the_end ∙ dead-answer old.end all.0 dead in
        subst (Stands S Q start) (sym (at ∙ ap (after_message S old M) refuses ∙ sym (dead-spends old dead))) s
