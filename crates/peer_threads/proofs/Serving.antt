-- The side that is spoken to first, before and after its pin.
--
-- Before the pin no end is there: what may come is said of the end that any peer would have. The parts of the first
-- message and its end are handed out, and the end that the pin makes hears all of them, so its session is then underway
-- as any other.
use Rattle.std.proofs.Common.{◌≡◌, ℕ, ◌+◌, ◌<◌, ◌≤◌, Bool, true, false, List, [], ◌∷◌, ◌++◌, length, Option}
use Rattle.std.proofs.Common.{None, Result, Err, IfErr, inl, inr, refl, sym, ap, ◌∙◌, subst, append-nil}
use Rattle.std.proofs.Common.{append_assoc, map, take, drop, get_or, IsTrue, ◌⊎◌, arith}
use Rattle.std.specs.Prelude.{fold}
use Rattle.std.proofs.lemmas.List.{take_more, drop_more, take-append-drop, map-append}
use Rattle.std.proofs.KnownBytes.{Appends-nil}
use Rattle.std.specs.Io.KnownBytes.{Appends}
use Rattle.definitions.proofs.Lemmas.{fold-append}
use Rattle.definitions.specs.Accounts.{Seen}
use Rattle.definitions.specs.Fingerprints.{Summary}
use Rattle.definitions.specs.Histories.{History, content}
use Rattle.definitions.specs.Items.{IsBytes}
use Rattle.definitions.specs.Messages.{Part, Message}
use Rattle.definitions.specs.Placing.{next, opening_fault}
use Rattle.definitions.specs.Ranks.{rank_by}
use Rattle.definitions.specs.Replies.{Peer}
use Rattle.definitions.specs.Refusals.{table_full, serials_spent}
use Rattle.definitions.specs.Streams.{Before_hello, feed, messages_of}
use Rattle.laws.specs.Parts.{FeedsJoin}
use Rattle.definitions.specs.Wire.{Profile, Event, Came, Ended}
use Rattle.definitions.specs.Ends.{responder, is_over}
use Rattle.definitions.specs.Engines.{responding}
use Rattle.definitions.specs.Hearing.{Hearing, Goes_on, hear_now, hear}
use Rattle.definitions.specs.Theorems.{OpeningIsExact}
use Rattle.ends_core.specs.EndStates.{EndState}
use Rattle.ends_core.specs.Turns.{fresh}
use Rattle.strategy_check.specs.Checked.{Checked}
use Rattle.version_lock.specs.declared.view.View.{View}
use Rattle.version_lock.specs.Calls.{PinState, IsPinOf}
use Rattle.session_table.specs.declared.outcome.Direction.TheVariants as directions
use Rattle.peer_threads.specs.declared.stop.Stop.{Stop}
use Rattle.peer_threads.specs.declared.stop.Stop.TheVariants as stops
use Rattle.session_table.specs.declared.outcome.Outcome.{Outcome}
use Rattle.peer_threads.specs.Outcomes.{Traffic, Origin, traffic_of, traffic_after, Speaks}
use Rattle.ends_core.specs.Sides.{KeepsBounds}
use Rattle.peer_threads.specs.Outcomes.{Unopened, IsTimely}
use Rattle.peer_threads.specs.Outcomes.{CameFirst}
use Rattle.ends_core.specs.Sides.{peer_of}
use Rattle.peer_threads.specs.Outcomes.{peer_at}
use Rattle.session_table.specs.Sent.{sent_in}
use Rattle.peer_threads.specs.Inboxes.{InboxState, HasRead, StopsAt, ReadOn}
use Rattle.peer_threads.specs.Senders.{SenderState, sender_state, hello_due, HasWritten, Adds, BreaksIn}
use Rattle.peer_threads.specs.Stops.{outcome_of}
use Rattle.peer_threads.specs.Underway.{heard_as, said_by, first_held, message_came}
use Rattle.peer_threads.specs.Underway.{StopsAmong, Underway, Exchanged, Refuses, IsNone}
use Rattle.peer_threads.specs.Underway.{WroteUpTo}
use Rattle.peer_threads.specs.Underway.{WhyStopped, Stopped, Leaves, Spoke}
use Rattle.peer_threads.proofs.Origins.{takes-on, takes-front}
use Rattle.peer_threads.proofs.Hearings.{heard-goes}
use Rattle.peer_threads.proofs.Breaks.{breaks-in-hello, cut-in-hello}
use Rattle.peer_threads.specs.Laws.{Laws}
use Rattle.peer_threads.proofs.Exchanges.{At, all-events, wrote-first, goes-on}
use Rattle.peer_threads.proofs.Exchanges.{stops-unheard-by}
use Rattle.peer_threads.proofs.Endings.{stopped-speaks, stopped-unopened, of-pin}
use Rattle.peer_threads.proofs.FirstMessages.{message-begins, unsaid}

-- what is said of an error
pub told : {X : Type 0} (r : Result X Stop) (stop : Stop) (Q : Stop → Type 0) → r ≡ Err stop → Q stop → IfErr r Q
told r stop Q is q = subst (λ a. IfErr a Q) (sym is) q

pub untold : {X : Type 0} (r : Result X Stop) (stop : Stop) (Q : Stop → Type 0) → r ≡ Err stop → IfErr r Q → Q stop
untold r stop Q is q = subst (λ a. IfErr a Q) is q

module _ {F : Type 0} (S : Summary F) (W : Profile F) where
  -- ---- the hello

  -- a hello was read, and the own one written
  pub greeted : (front : List ℕ) (unread w x : Option (List ℕ)) (b : InboxState) (o p : SenderState) →
      o ≡ sender_state false 0 → p ≡ sender_state true o.sent → Appends w x (hello_due W o) →
      IsBytes front → HasRead W b front [] → Exchanged W b p (traffic_after front unread unread w x) []
  greeted front unread w x b o p new now written fits came = record {
    bytes = front;
    are_bytes = fits;
    read = takes-front front unread;
    came = came;
    written = record {
      greeted = ap (λ y. y.greeted) now;
      count = ap (λ y. y.sent) now ∙ ap (λ y. y.sent) new;
      written = subst (Appends w x) (ap (hello_due W) new ∙ sym (append-nil W.hello)) written;
    };
  }

  -- it is another, or memory runs out after it
  pub stops-ungreeted : Laws S W →
      (P : Peer) (o : SenderState) (front : List ℕ) (unread held : Option (List ℕ)) (r : Seen) (broken : Bool)
      (stop : Stop) → o ≡ sender_state false 0 → IsBytes front → StopsAt W r front [] stop →
      Stopped S W IsNone (responding S P) o (traffic_after front unread unread held held) r broken stop
  stops-ungreeted laws P o front unread held r broken stop new fits stopped =
      stops-unheard-by S W IsNone laws (responding S P) (first_held S P []) o
      (traffic_after front unread unread held held) r broken stop front [] refl fits (takes-front front unread)
      (ap (λ x. x.sent) new) (λ rest all. inr
      (record { greeted = ap (λ x. x.greeted) new; none = ap (λ x. x.sent) new; written = Appends-nil held })) refl
      stopped

  -- ---- after the pin

  -- the hello was written, and no more: memory runs out, or the table of sessions refuses
  stops-after : (T : ℕ → ℕ → Type 0) (P : Peer) (b : InboxState) (o : SenderState) (t : Traffic) (r : Seen)
      (broken : Bool) (es : List (Event F)) (stop : Stop) (x : Exchanged W b o t es) →
      (WroteUpTo S W (responding S P) o t x.bytes → WhyStopped S W T (responding S P) o t r broken x.bytes stop) →
      Stopped S W T (responding S P) o t r broken stop
  stops-after T P b o t r broken es stop x why = record {
    bytes = x.bytes;
    are_bytes = x.are_bytes;
    read = x.read;
    why = why (inl (wrote-first S W (responding S P) o t x.bytes [] _ refl x.written));
  }

  pub stops-poor : (P : Peer) (b : InboxState) (o : SenderState) (t : Traffic) (r : Seen) (broken : Bool)
      (es : List (Event F)) →
      Exchanged W b o t es → Stopped S W (IsTimely o.sent) (responding S P) o t r broken stops.Memory
  stops-poor P b o t r broken es x = stops-after (IsTimely o.sent) P b o t r broken es stops.Memory x (λ wrote. wrote)

  pub stops-unlisted : (P : Peer) (b : InboxState) (o : SenderState) (t : Traffic) (r : Seen) (broken : Bool)
      (es : List (Event F))
      (code : ℕ) →
      Exchanged W b o t es → (code ≡ table_full) ⊎ (code ≡ serials_spent) → o.sent ≡ 0 →
      Stopped S W (IsTimely o.sent) (responding S P) o t r broken (stops.Refused code)
  stops-unlisted P b o t r broken es code x table none =
      stops-after (IsTimely o.sent) P b o t r broken es (stops.Refused code) x
      (λ wrote. (wrote, inr (inl (table, none))))

  -- the events in front of a part, and those after it
  pub parts-split : (front back : Message F) (p : Part F) (more : List (Event F)) →
      message_came (front ++ p ∷ back) ++ more ≡ (map Came front ++ Came p ∷ []) ++ (map Came back ++ Ended ∷ more)
  parts-split [] back p more = ap (λ l. Came p ∷ l) (append_assoc (map Came back) (Ended ∷ []) more)
  parts-split (q ∷ front) back p more = ap (λ l. Came q ∷ l) (parts-split front back p more)

  -- a part waits for the end that was made, which has heard those in front of it
  abbrev pub at-part : (P : Peer) (steps : List ℕ) (h : EndState F) (b : InboxState) (o : SenderState) (t : Traffic)
      (M : Message F) (stop : Stop) →
      h ≡ fresh steps (responder S P) → (x : StopsAmong S h M stop) →
      Exchanged W b o t (message_came M) → At S W (responding S P) x.at o t (Came x.part)
  at-part P steps h b o t M stop new x y =
      let after = all-events S W b y.bytes (message_came M) y.came in
      record {
        bytes = y.bytes;
        are_bytes = y.are_bytes;
        read = y.read;
        es = map Came x.front;
        rest = map Came x.back ++ Ended ∷ after.0;
        all = after.1 ∙ ap (λ N. message_came N ++ after.0) x.all ∙ parts-split x.front x.back x.part after.0;
        written = subst (HasWritten W o t.held t.holds) (sym (unsaid S W P x.front)) y.written;
        heard = ap (λ z. fold (hear S) (Goes_on z.end z.taken) (map Came x.front)) (sym new) ∙ x.heard;
      }

  -- they were heard, and the end of the message waits
  abbrev pub at-end : (P : Peer) (steps : List ℕ) (h g : EndState F) (b : InboxState) (o : SenderState) (t : Traffic)
      (M : Message F) →
      h ≡ fresh steps (responder S P) →
      heard_as g ≡ fold (hear S) (Goes_on h.end h.taken) (map Came M) → g.end ≡ h.end →
      Exchanged W b o t (message_came M) → At S W (responding S P) g o t Ended
  at-end P steps h g b o t M new now same x =
      let after = all-events S W b x.bytes (message_came M) x.came in
      let live : is_over g.end.stage ≡ false = ap (λ e. is_over e.stage) same ∙ ap (λ y. is_over y.end.stage) new in
      record {
        bytes = x.bytes;
        are_bytes = x.are_bytes;
        read = x.read;
        es = map Came M;
        rest = after.0;
        all = after.1;
        written = subst (HasWritten W o t.held t.holds) (sym (unsaid S W P M)) x.written;
        heard = ap (λ y. fold (hear S) (Goes_on y.end y.taken) (map Came M)) (sym new) ∙ sym now ∙ heard-goes S W g
            live;
      }

  pub answers-first : Laws S W →
      (P : Peer) (steps : List ℕ) (h g k : EndState F) (b : InboxState) (o q : SenderState) (t : Traffic)
      (holds : Option (List ℕ)) (M : Message F) →
      h ≡ fresh steps (responder S P) →
      heard_as g ≡ fold (hear S) (Goes_on h.end h.taken) (map Came M) → g.end ≡ h.end →
      (x : Exchanged W b o t (message_came M)) →
      heard_as k ≡ hear_now S g.end g.taken Ended → Adds W o q t.holds holds (said_by g Ended) →
      Underway S W (responding S P) k b q (traffic_of t.unread t.left t.held holds)
  answers-first laws P steps h g k b o q t holds M new now same x next added =
      goes-on S W laws (responding S P) g k b o q t holds Ended refl
      (at-end P steps h g b o t M new now same x) x.came next added

  -- ---- one part after another

  -- those in front of one part more
  pub taken-more : (h g k : EndState F) (M : Message F) (i : ℕ) (p : Part F) → i < length M → p ≡ get_or M i p →
      is_over g.end.stage ≡ false →
      heard_as g ≡ fold (hear S) (Goes_on h.end h.taken) (map Came (take i M)) →
      heard_as k ≡ hear_now S g.end g.taken (Came p) →
      heard_as k ≡ fold (hear S) (Goes_on h.end h.taken) (map Came (take (i + 1) M))
  taken-more h g k M i p here is live before now =
      let begun : Hearing F = Goes_on h.end h.taken in
      now
      ∙ ap (λ x. hear S x (Came p)) (sym (heard-goes S W g live) ∙ before)
      ∙ sym (fold-append (hear S) begun (map Came (take i M)) (Came p ∷ []))
      ∙ ap (fold (hear S) begun) (sym (map-append Came (take i M) (p ∷ [])))
      ∙ ap (λ N. fold (hear S) begun (map Came N))
      (ap (λ x. take i M ++ x ∷ []) is ∙ sym (take_more M i p here))

  pub stops-among : (h g : EndState F) (M : Message F) (i : ℕ) (p : Part F) (stop : Stop) → i < length M →
      p ≡ get_or M i p → is_over g.end.stage ≡ false →
      heard_as g ≡ fold (hear S) (Goes_on h.end h.taken) (map Came (take i M)) → Refuses S g (Came p) stop →
      StopsAmong S h M stop
  stops-among h g M i p stop here is live before refuses = record {
    front = take i M;
    part = p;
    back = drop (i + 1) M;
    all =
        sym (take-append-drop i M)
        ∙ ap (λ l. take i M ++ l) (drop_more M i p here ∙ ap (λ x. x ∷ drop (i + 1) M) (sym is));
    at = g;
    heard = sym before ∙ heard-goes S W g live;
    refuses = refuses;
  }

  -- ---- all that is said of it

  -- the writer failed after the hello that was read, before the own one was written
  pub stops-broken-after : (T : ℕ → ℕ → Type 0) (P : Peer) (o p : SenderState) (front : List ℕ)
      (unread held holds : Option (List ℕ)) (r : Seen) (broken : Bool) →
      o ≡ sender_state false 0 → p ≡ o → IsTrue broken → BreaksIn held holds (hello_due W o) → IsBytes front →
      Stopped S W T (responding S P) p (traffic_after front unread unread held holds) r broken
      (stops.Io directions.Write)
  stops-broken-after T P o p front unread held holds r broken new same failed begins fits = record {
    bytes = front;
    are_bytes = fits;
    read = takes-front front unread;
    why =
        let t = traffic_after front unread unread held holds in
        let part = subst (λ x. BreaksIn held holds (hello_due W x)) new begins in
        let none = ap (λ x. x.sent) (same ∙ new) in (
          breaks-in-hello S W (responding S P) p t front none part,
          failed,
          cut-in-hello S W (responding S P) p t front none part,
        );
  }

  -- a session that stopped before it said anything
  pub speaks-stopped : (P : Peer) (version bound : ℕ) (x : SenderState) (t : Traffic) (holds : Option (List ℕ))
      (r w : Seen) (broken : Bool) (stop : Stop) (o : Outcome) →
      x.sent ≡ 0 →
      Stopped S W (IsTimely x.sent) (responding S P) x t r broken stop → Leaves W x t.holds holds broken w.failed stop →
      o ≡ outcome_of x.sent stop → Spoke S W (responding S P) version bound (traffic_of t.unread t.left t.held holds) r
      w
      o
  speaks-stopped P version bound x t holds r w broken stop o none stopped leaves is =
      let few : x.sent ≤ bound = omega (arith, none) in
      subst (λ y. Spoke S W (responding S P) version bound (traffic_of t.unread t.left t.held holds) r w y) (sym is)
      (stopped-speaks S W (responding S P) version bound x t holds r w broken stop stopped leaves few)

  -- it was not opened
  pub unopened : (x : SenderState) (t : Traffic) (holds : Option (List ℕ)) (r w : Seen) (broken : Bool) (stop : Stop)
      (o : Outcome) →
      x.sent ≡ 0 →
      ((P : Peer) → Stopped S W IsNone (responding S P) x t r broken stop) →
      Leaves W x t.holds holds broken w.failed stop →
      o ≡ outcome_of x.sent stop → Unopened S W (traffic_of t.unread t.left t.held holds) r w o
  unopened x t holds r w broken stop o none stopped leaves is =
      subst (λ y. Unopened S W (traffic_of t.unread t.left t.held holds) r w y) (sym is) (record {
        none = by stop;
        anyone = λ P version. stopped-unopened S W (responding S P) version x t holds r w broken stop (stopped P)
            leaves;
      }) where
        by : (stop : Stop) → sent_in (outcome_of x.sent stop) ≡ 0
        by (stops.Refused code) = none
        by (stops.PeerRefused code) = none
        by stops.Memory = none
        by (stops.Io side) = none

  -- what the side that is spoken to first keeps to
  abbrev pub SecondIsModest : Checked → Type 0
  SecondIsModest a = (h : History) (bytes : List ℕ) → IsBytes bytes → length (content h) ≤ a.table.cap →
      KeepsBounds S W (responding S (peer_of a (content h))) bytes
      (rank_by a.steps (length (content h)) + 1) a.table.limit

  pub serves : (a b : Checked) (w : View) (pin : PinState) (t : Traffic) (r x : Seen) (o : Outcome) → IsPinOf pin w →
      b ≡ a →
      Spoke S W (responding S (peer_of b pin.items)) pin.version (rank_by b.steps (length pin.items) + 1) t r x o →
      SecondIsModest a →
      Speaks S W (length (content w.base) ≤ a.table.cap) (responding S (peer_at a w)) (length w.base)
      (rank_by a.steps (length (peer_at a w).items) + 1) a.table.limit t r x o
  serves a b w pin t r x o is same spoke bounded =
      of-pin S W (length (content w.base) ≤ a.table.cap) (λ p. responding S p) 1 a b w pin t r x o is same spoke
      (bounded w.base)

  -- a first message was handed out, and more was read or not
  pub came-first : FeedsJoin W → OpeningIsExact F →
      (b : InboxState) (o : SenderState) (unread : Origin) (left last held holds : Option (List ℕ)) (M : Message F) →
      opening_fault S.may_cut M ≡ None → Exchanged W b o (traffic_of unread left held holds) (message_came M) →
      ReadOn left last → CameFirst S W unread last
  came-first join exact b o unread left last held holds M fits x on =
      let after = all-events S W b x.bytes (message_came M) x.came in
      let first = feed W Before_hello x.bytes in
      let rest = feed W first.to (first.kept ++ on.0) in
      record {
        bytes = x.bytes ++ on.0;
        read = takes-on unread left last x.bytes on.0 x.read on.2;
        message = M;
        first = (exact S.may_cut M).0 fits;
        later = messages_of [] (after.0 ++ rest.events);
        messages =
            ap (λ f. messages_of [] f.events) (join Before_hello x.bytes on.0 x.are_bytes on.1)
            ∙ ap (λ es. messages_of [] (es ++ rest.events)) after.1
            ∙ ap (messages_of []) (append_assoc (message_came M) after.0 rest.events)
            ∙ message-begins S W [] M (after.0 ++ rest.events);
      }
