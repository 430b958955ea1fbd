-- How a session of the side that speaks first begins, and what is said of it where it stops before it reads.
--
-- Nothing was read, so what was written is nothing, the hello, or the hello and the first message, which is what no
-- bytes call for.
use Rattle.std.proofs.Common.{◌≡◌, ℕ, ◌≤◌, ◌+◌, Bool, false, true, List, [], ◌∷◌, length, Option, inl, inr, refl}
use Rattle.std.proofs.Common.{sym, ap, ◌∙◌, subst, append-nil, IsTrue, ◌<◌, ◌⊎◌, arith}
use Rattle.std.specs.Prelude.{⊤}
use Rattle.std.proofs.KnownBytes.{Appends-nil, Consumes-nil}
use Rattle.std.specs.Io.KnownBytes.{Appends}
use Rattle.definitions.specs.Accounts.{Seen}
use Rattle.definitions.specs.Refusals.{table_full, serials_spent}
use Rattle.definitions.specs.Fingerprints.{Summary}
use Rattle.definitions.specs.Histories.{content}
use Rattle.definitions.specs.Items.{Item, IsBytes}
use Rattle.definitions.specs.Messages.{Message}
use Rattle.definitions.specs.Replies.{opening}
use Rattle.definitions.specs.Worlds.{opened_of}
use Rattle.definitions.specs.Replies.{Peer}
use Rattle.definitions.specs.Ends.{initiator}
use Rattle.definitions.specs.Engines.{Speaker, initiating}
use Rattle.definitions.specs.Wire.{Profile, session_text}
use Rattle.strategy_check.specs.Checked.{Checked}
use Rattle.ends_core.specs.EndStates.{EndState}
use Rattle.ends_core.specs.Turns.{fresh}
use Rattle.version_lock.specs.declared.view.View.{View}
use Rattle.version_lock.specs.Calls.{PinState, IsPinOf, Looked}
use Rattle.session_table.specs.declared.outcome.Outcome.{Outcome}
use Rattle.session_table.specs.declared.outcome.Direction.TheVariants as directions
use Rattle.peer_threads.specs.declared.stop.Stop.{Stop}
use Rattle.peer_threads.specs.declared.stop.Stop.TheVariants as stops
use Rattle.peer_threads.specs.Outcomes.{Traffic, traffic, Speaks, IsTimely, IsCut, peer_at}
use Rattle.ends_core.specs.Sides.{KeepsBounds, called_by, peer_of}
use Rattle.peer_threads.specs.Inboxes.{InboxState, HasRead}
use Rattle.peer_threads.specs.Senders.{SenderState, sender_state, hello_due, HasWritten, Adds, BreaksIn}
use Rattle.peer_threads.specs.Stops.{outcome_of}
use Rattle.peer_threads.specs.Underway.{heard_as, Underway, Unsaid, WroteFirst, HasBroken, WhyStopped, Stopped}
use Rattle.peer_threads.specs.Underway.{Leaves}
use Rattle.peer_threads.specs.Underway.{Spoke}
use Rattle.peer_threads.proofs.Breaks.{breaks-in-hello, breaks-in-message, cut-in-hello, cut-in-message}
use Rattle.peer_threads.proofs.Exchanges.{adds, adds-nothing, wrote-first}
use Rattle.peer_threads.proofs.Endings.{stopped-speaks, speaks}

-- what a pin found fits the table
pub found-fits : (v w : View) (cap : ℕ) → Looked v w → v.cap ≤ cap → length (content w.base) ≤ cap
found-fits v w cap looked fits = omega (arith, looked.once.fits, looked.once.cap, fits)

module _ {F : Type 0} (S : Summary F) (W : Profile F) where
  -- the hello was written, and nothing else
  pub greets : (o p : SenderState) (held holds : Option (List ℕ)) → o ≡ sender_state false 0 →
      Appends held holds (hello_due W o) → p ≡ sender_state true o.sent → HasWritten W p held holds []
  greets o p held holds new whole greeted = record {
    greeted = ap (λ x. x.greeted) greeted;
    count = ap (λ x. x.sent) greeted ∙ ap (λ x. x.sent) new;
    written = subst (Appends held holds) (ap (hello_due W) new ∙ sym (append-nil W.hello)) whole;
  }

  -- the first message too
  pub begun-first : (p : Peer) (h : EndState F) (steps : List ℕ) (b : InboxState) (o q r : SenderState)
      (unread held holds more : Option (List ℕ)) (first : Message F) →
      h ≡ fresh steps (initiator S p) → first ≡ opening S p → HasRead W b [] [] →
      o ≡ sender_state false 0 → Appends held holds (hello_due W o) → q ≡ sender_state true o.sent →
      Adds W q r holds more (first ∷ []) →
      Underway S W (initiating S p) h b r (traffic unread unread held more)
  begun-first p h steps b o q r unread held holds more first is opens came new whole greeted added = record {
    events = [];
    bytes = [];
    are_bytes = tt;
    read = Consumes-nil unread;
    came = came;
    written = subst (λ (M : Message F). HasWritten W r held more (M ∷ [])) opens
        (adds S W q r held holds more [] (first ∷ []) (greets o q held holds new whole greeted) added);
    heard = sym (ap heard_as is);
  }

  -- memory ran out before anything was written
  pub stops-silent : (T : ℕ → ℕ → Type 0) (s : Speaker F) (o : SenderState) (unread held : Option (List ℕ))
      (r : Seen) (broken : Bool) →
      o ≡ sender_state false 0 → Stopped S W T s o (traffic unread unread held held) r broken stops.Memory
  stops-silent T s o unread held r broken new = record {
    bytes = [];
    are_bytes = tt;
    read = Consumes-nil unread;
    why = inr (record { greeted = ap (λ x. x.greeted) new; none = ap (λ x. x.sent) new; written = Appends-nil held });
  }

  -- the writer failed before the hello was written
  pub stops-broken : (T : ℕ → ℕ → Type 0) (s : Speaker F) (o p : SenderState) (unread held holds : Option (List ℕ))
      (r : Seen) (broken : Bool) →
      o ≡ sender_state false 0 → p ≡ o → IsTrue broken → BreaksIn held holds (hello_due W o) →
      Stopped S W T s p (traffic unread unread held holds) r broken (stops.Io directions.Write)
  stops-broken T s o p unread held holds r broken new same failed front = record {
    bytes = [];
    are_bytes = tt;
    read = Consumes-nil unread;
    why =
        let part = subst (λ x. BreaksIn held holds (hello_due W x)) new front in
        let none = ap (λ x. x.sent) (same ∙ new) in (
          breaks-in-hello S W s p (traffic unread unread held holds) [] none part,
          failed,
          cut-in-hello S W s p (traffic unread unread held holds) [] none part,
        );
  }

  -- the first message was not said
  pub stops-first : (p : Peer) (o q r : SenderState) (unread held holds more : Option (List ℕ)) (input : Seen)
      (broken : Bool) (first : Message F) (stop : Stop) →
      first ≡ opening S p →
      o ≡ sender_state false 0 → Appends held holds (hello_due W o) → q ≡ sender_state true o.sent →
      Unsaid W q r holds more broken (first ∷ []) stop →
      Stopped S W (IsTimely r.sent) (initiating S p) r (traffic unread unread held more) input broken stop
  stops-first p o q r unread held holds more input broken first stop opens new whole greeted unsaid =
      record { bytes = []; are_bytes = tt; read = Consumes-nil unread; why = by stop unsaid } where
        t : Traffic
        t = traffic unread unread held more

        hello : HasWritten W q held holds []
        hello = greets o q held holds new whole greeted

        none : Adds W q r holds more [] → WroteFirst S W (initiating S p) r t []
        none added = wrote-first S W (initiating S p) r t [] [] (opening S p ∷ []) refl
            (adds-nothing S W q r held holds more [] hello added)

        some : Adds W q r holds more (first ∷ []) → WroteFirst S W (initiating S p) r t []
        some added =
            wrote-first S W (initiating S p) r t [] (opening S p ∷ []) [] refl
            (subst (λ (M : Message F). HasWritten W r held more (M ∷ [])) opens
            (adds S W q r held holds more [] (first ∷ []) hello added))

        by : (stop : Stop) → Unsaid W q r holds more broken (first ∷ []) stop →
            WhyStopped S W (IsTimely r.sent) (initiating S p) r t input broken [] stop
        by (stops.Refused code) (inl (uncounted, one, added)) =
            let fewer : r.sent < 1 = omega (arith, added.count, hello.count) in
            (inl (none added), inr (inr (inl (uncounted, fewer))))
        by (stops.Refused code) (inr (shut, one, added)) =
            (inl (some added), inr (inr (inr (shut, omega (arith, added.count)))))
        by (stops.PeerRefused code) r = absurd r
        by stops.Memory added = inl (none added)
        by (stops.Io side) (write, failed, part) =
            let s = initiating S p in
            let calls = sym (ap (λ (M : Message F). M ∷ []) opens) ∙ part.one in
            let broke = breaks-in-message S W s q r t holds [] [] [] part.message calls hello part.same part.front in
            let cut = cut-in-message S W s q r t holds [] [] [] part.message calls hello part.same part.front in (
              broke,
              subst (HasBroken input broken []) (sym write) failed,
              subst (IsCut (length broke.all) (length (session_text W (called_by S W s [])))) (sym write) cut,
            )

  -- the table of sessions refused before anything was written
  pub stops-unbooked : (s : Speaker F) (o : SenderState) (unread held : Option (List ℕ)) (input : Seen)
      (broken : Bool) (code : ℕ) →
      o ≡ sender_state false 0 → (code ≡ table_full) ⊎ (code ≡ serials_spent) →
      Stopped S W (IsTimely o.sent) s o (traffic unread unread held held) input broken (stops.Refused code)
  stops-unbooked s o unread held input broken code new table = record {
    bytes = [];
    are_bytes = tt;
    read = Consumes-nil unread;
    why = (
      inr
          (record { greeted = ap (λ x. x.greeted) new; none = ap (λ x. x.sent) new; written = Appends-nil held }),
      inr (inl (table, ap (λ x. x.sent) new)),
    );
  }

  -- a session that stopped before anything was written: by memory, or by the table of sessions
  pub speaks-unsaid : (s : Speaker F) (version bound : ℕ) (x : SenderState) (unread held holds : Option (List ℕ))
      (r w : Seen) (broken : Bool) (stop : Stop) (o : Outcome) →
      x ≡ sender_state false 0 →
      Stopped S W (IsTimely x.sent) s x (traffic unread unread held held) r broken stop →
      Leaves W x held holds broken w.failed stop →
      o ≡ outcome_of x.sent stop → Spoke S W s version bound (traffic unread unread held holds) r w o
  speaks-unsaid s version bound x unread held holds r w broken stop o new stopped leaves is =
      let few : x.sent ≤ bound = omega (arith, ap (λ y. y.sent) new) in
      subst (λ y. Spoke S W s version bound (traffic unread unread held holds) r w y) (sym is)
      (stopped-speaks S W s version bound x (traffic unread unread held held) holds r w broken stop stopped leaves few)

  -- a session over any set, by what its two ends come to
  pub speaks-over : (a b : Checked) (A : List Item) (v : ℕ) (t : Traffic) (r x : Seen) (o : Outcome) → b ≡ a →
      Spoke S W (initiating S (peer_of b A)) v (opened_of S b.steps (peer_of b A) + 2) t r x o →
      ((bytes : List ℕ) → IsBytes bytes → ⊤ →
      KeepsBounds S W (initiating S (peer_of a A)) bytes (opened_of S a.steps (peer_of a A) + 2) a.table.limit) →
      Speaks S W ⊤ (initiating S (peer_of a A)) v (opened_of S a.steps (peer_of a A) + 2) a.table.limit t r x o
  speaks-over a b A v t r x o same spoke bounded =
      speaks S W ⊤ (initiating S (peer_of a A)) v (opened_of S a.steps (peer_of a A) + 2) a.table.limit t r x o
      (subst (λ (d : Checked). Spoke S W (initiating S (peer_of d A)) v (opened_of S d.steps (peer_of d A) + 2) t r x o)
      same spoke) bounded

  -- the same over a pin of the history that was found
  pub speaks-pinned : (a : Checked) (w : View) (pin : PinState) (t : Traffic) (r x : Seen) (o : Outcome) →
      IsPinOf pin w →
      Speaks S W ⊤ (initiating S (peer_of a pin.items)) pin.version (opened_of S a.steps (peer_of a pin.items) + 2)
      a.table.limit t r x o →
      Speaks S W ⊤ (initiating S (peer_at a w)) (length w.base) (opened_of S a.steps (peer_at a w) + 2)
      a.table.limit t r x o
  speaks-pinned a w pin t r x o is spoke =
      let of_set = subst (λ (A : List Item). Speaks S W ⊤ (initiating S (peer_of a A)) pin.version
      (opened_of S a.steps (peer_of a A) + 2) a.table.limit t r x o) is.items_are spoke in
      subst (λ (v : ℕ). Speaks S W ⊤ (initiating S (peer_at a w)) v (opened_of S a.steps (peer_at a w) + 2)
      a.table.limit t r x o) is.version_is of_set
