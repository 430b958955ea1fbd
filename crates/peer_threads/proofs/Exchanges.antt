-- How a session goes on from event to event, and what can be told of it where it stops.
--
-- The events handed out are the first of all events in the bytes read. What was said to them begins all that the bytes
-- call for, so the messages written are the first of those. Where an event stops the hearing, or the stream does, or
-- its end, the laws say that nothing more is said and what the first fault is.
use Rattle.std.proofs.Common.{◌≡◌, ℕ, ◌+◌, ◌<◌, ◌⊎◌, Bool, true, false, List, [], ◌∷◌, ◌++◌}
use Rattle.std.proofs.Common.{length}
use Rattle.std.proofs.Common.{flat_map, take, Option, Some, None, inl, inr, refl, sym, ap, ◌∙◌, subst, append_assoc}
use Rattle.std.proofs.Common.{append-nil, IsTrue, arith}
use Rattle.std.specs.Prelude.{slice_get, if◌then◌else◌}
use Rattle.std.proofs.lemmas.List.{length-append}
use Rattle.std.proofs.lemmas.Grind.{flat_map-append}
use Rattle.std.proofs.Math.Seq.{take-append_seam, take-length}
use Rattle.std.proofs.KnownBytes.{Appends-trans}
use Rattle.std.specs.Io.KnownBytes.{Appends, Consumes}
use Rattle.definitions.proofs.Lemmas.{All-append, fold-append}
use Rattle.definitions.specs.Fingerprints.{Summary}
use Rattle.definitions.specs.Items.{IsBytes}
use Rattle.definitions.specs.Messages.{Message}
use Rattle.definitions.specs.Refusals.{truncated}
use Rattle.definitions.specs.Wire.{Profile, message_text, session_text, Event, Came, Ended, Failed}
use Rattle.definitions.specs.Streams.{Standing, Before_hello, In_message, Meaning_over, Faulted, feed, messages_of}
use Rattle.definitions.specs.Ends as answered
use Rattle.definitions.specs.Ends.{End, Answer, Replies, Ends, is_live, is_over, is_sendable}
use Rattle.definitions.specs.Engines.{Speaker, says, session, own, replied, messages_in, fault_of}
use Rattle.definitions.specs.Taking.{Taken, ended, nothing_taken, after_ended}
use Rattle.definitions.specs.Hearing.{Goes_on, Over_at, Peer_refused, Refused_for, stands_at}
use Rattle.definitions.specs.Hearing.{ended_by, hear_now, hear, begins, hears, stop_at, with_end}
use Rattle.definitions.specs.Hearing.{hearing_to}
use Rattle.definitions.specs.Accounts.{Seen}
use Rattle.laws.specs.Hearing.{has_stopped, SaidBut, AgreesBy}
use Rattle.wire_core.specs.Feeds.{fault_at}
use Rattle.ends_core.specs.EndStates.{EndState}
use Rattle.peer_threads.specs.declared.stop.Stop.{Stop}
use Rattle.peer_threads.specs.declared.stop.Stop.TheVariants as stops
use Rattle.peer_threads.specs.Outcomes.{Traffic, Takes, traffic_of, SaidAll, IsTimely, IsCut}
use Rattle.ends_core.specs.Sides.{said_to, called_by}
use Rattle.peer_threads.specs.Laws.{Laws}
use Rattle.peer_threads.specs.Inboxes.{InboxState, HasRead, IsFaulty, StopsAt}
use Rattle.peer_threads.specs.Senders.{SenderState, HasWritten, Adds}
use Rattle.peer_threads.specs.Underway.{heard_as, said_by, Underway, Unsaid, Refuses, StopsBy, WroteFirst}
use Rattle.peer_threads.specs.Underway.{WroteUpTo, IsLong, IsFirst, HasBroken, WhyStopped}
use Rattle.peer_threads.specs.Underway.{Stopped, Finished}
use Rattle.peer_threads.proofs.Origins.{takes-on}
use Rattle.peer_threads.proofs.Hearings.{heard-goes, heard-over, first-frame}
use Rattle.peer_threads.proofs.Breaks.{breaks-after, breaks-in-message, cut-in-message}

module _ {F : Type 0} (S : Summary F) (W : Profile F) where
  abbrev so_far : Speaker F → List (Event F) → List (Message F)
  so_far s es = says S s (messages_of [] es)

  abbrev events_in : List ℕ → List (Event F)
  events_in bytes = (feed W Before_hello bytes).events

  -- ---- what was read

  -- the events that are not handed out yet
  abbrev pub After : List ℕ → List (Event F) → Type 0
  After bytes es = (more : List (Event F)) × (events_in bytes ≡ es ++ more)

  pub all-events : (b : InboxState) (bytes : List ℕ) (es : List (Event F)) → HasRead W b bytes es → After bytes es
  all-events b bytes es has = (has.more, has.events)

  -- ---- what is said

  slice_last : (xs : List (Message F)) (N : Message F) → slice_get (xs ++ N ∷ []) (length xs) ≡ Some N
  slice_last [] N = refl
  slice_last (x ∷ xs) N = slice_last xs N

  pub wrote-first : (s : Speaker F) (o : SenderState) (t : Traffic) (bytes : List ℕ)
      (said more : List (Message F)) →
      called_by S W s bytes ≡ said ++ more → HasWritten W o t.held t.holds said → WroteFirst S W s o t bytes
  wrote-first s o t bytes said more is w = record {
    greeted = w.greeted;
    count = omega (arith, w.count, ap (λ (l : List (Message F)). length l) is, length-append said more);
    written =
        subst (λ (l : List (Message F)). Appends t.held t.holds (session_text W l))
        (sym ((λ i. take (w.count i) (is i)) ∙ take-append_seam said more)) w.written;
  }

  -- the first fault, where nothing more is said
  pub first-at : Laws S W → (s : Speaker F) (over : Bool) (bytes : List ℕ) (said : List (Message F)) (k code : ℕ) →
      is_live s.start.stage ≡ true →
      hearing_to S W s over bytes ≡ Refused_for code →
      says S s (messages_in W bytes) ≡ said → k ≡ length said → IsFirst S W s over bytes k code
  first-at laws s over bytes said k code live first same count = record { first = first; after = by agreed.1 } where
    Ms : List (Message F)
    Ms = messages_in W bytes

    agreed : AgreesBy (session S s Ms) (says S s Ms) (own S s Ms) (Refused_for code)
    agreed = subst (AgreesBy (session S s Ms) (says S s Ms) (own S s Ms)) first
        (laws.agree s over bytes live)

    by : SaidBut (says S s Ms) (own S s Ms) code →
        (length (own S s Ms) ≡ k) ⊎ IsLong (own S s Ms) k code
    by (inl all) = inl (ap (λ (l : List (Message F)). length l) (all ∙ same) ∙ sym count)
    by (inr (twelve, N, long, is)) = inr (record {
      twelve = twelve;
      count = omega (
        arith,
        ap (λ (l : List (Message F)). length l)
            (is ∙ ap (λ (l : List (Message F)). l ++ N ∷ []) same),
        length-append said (N ∷ []),
        count,
      );
      reply = N;
      last = (λ i. slice_get ((is ∙ ap (λ (l : List (Message F)). l ++ N ∷ []) same) i) (count i))
          ∙ slice_last said N;
      long = long;
    })

  -- all that was said, as a text of so many messages
  pub said-all : (s : Speaker F) (o : SenderState) (t : Traffic) (bytes : List ℕ) (said : List (Message F)) →
      said_to S W s bytes ≡ said → HasWritten W o t.held t.holds said → SaidAll S W s t bytes o.sent
  said-all s o t bytes said is w = record {
    written =
        subst (λ (l : List (Message F)). Appends t.held t.holds (session_text W l))
        (sym (ap (λ n. take n (said_to S W s bytes)) w.count ∙ ap (λ l. take (length said) l) is ∙ take-length said))
        w.written;
    count = ap (λ (l : List (Message F)). length l) is ∙ sym w.count;
  }

  -- ---- what was written, and then more

  pub adds : (o p : SenderState) (a b c : Option (List ℕ)) (Ms Ns : List (Message F)) → HasWritten W o a b Ms →
      Adds W o p b c Ns → HasWritten W p a c (Ms ++ Ns)
  adds o p a b c Ms Ns w more = record {
    greeted = more.greeted ∙ w.greeted;
    count = more.count ∙ ap (λ (n : ℕ). n + length Ns) w.count ∙ sym (length-append Ms Ns);
    written =
        let f = message_text W in
        subst (Appends a c) (append_assoc W.hello (flat_map f Ms) (flat_map f Ns)
        ∙ ap (λ (l : List ℕ). W.hello ++ l) (sym (flat_map-append f Ms Ns)))
        (Appends-trans a b c (session_text W Ms) (flat_map f Ns) w.written more.written);
  }

  pub adds-nothing : (o p : SenderState) (a b c : Option (List ℕ)) (Ms : List (Message F)) → HasWritten W o a b Ms →
      Adds W o p b c [] → HasWritten W p a c Ms
  adds-nothing o p a b c Ms w more = subst (HasWritten W p a c) (append-nil Ms) (adds o p a b c Ms [] w more)

  -- ---- an event comes

  abbrev pub More : Option (List ℕ) → Option (List ℕ) → InboxState → List ℕ → List (Event F) → Type 0
  More unread left c before es = (bytes : List ℕ) × IsBytes bytes × Consumes unread left bytes
      × HasRead W c (before ++ bytes) es

  -- the event e came after es, which the end h has heard; all that was said to these was written
  pub record At (s : Speaker F) (h : EndState F) (o : SenderState) (t : Traffic) (e : Event F) : Type 0 where
    pub bytes : List ℕ
    pub are_bytes : IsBytes bytes
    pub read : Takes t.unread t.left bytes
    pub es : List (Event F)
    pub rest : List (Event F)
    pub all : events_in bytes ≡ (es ++ e ∷ []) ++ rest
    pub written : HasWritten W o t.held t.holds (so_far s es)
    pub heard : hears S s es ≡ Goes_on h.end h.taken

  abbrev pub at-event : (s : Speaker F) (h : EndState F) (b c : InboxState) (o : SenderState) (t : Traffic)
      (left : Option (List ℕ)) (e : Event F) →
      (u : Underway S W s h b o t) → More t.left left c u.bytes (u.events ++ e ∷ []) → is_over h.end.stage ≡ false →
      At s h o (traffic_of t.unread left t.held t.holds) e
  at-event s h b c o t left e u more goes =
      let after = all-events c (u.bytes ++ more.0) (u.events ++ e ∷ []) more.3 in
      record {
        bytes = u.bytes ++ more.0;
        are_bytes = All-append (λ y. y < 256) u.bytes more.0 u.are_bytes more.1;
        read = takes-on t.unread t.left left u.bytes more.0 u.read more.2;
        es = u.events;
        rest = after.0;
        all = after.1;
        written = u.written;
        heard = u.heard ∙ heard-goes S W h goes;
      }

  -- it is heard, and the session goes on
  pub goes-on : Laws S W →
      (s : Speaker F) (h g : EndState F) (c : InboxState) (o p : SenderState) (t : Traffic) (holds : Option (List ℕ))
      (e : Event F) →
      is_live s.start.stage ≡ true →
      (x : At s h o t e) → HasRead W c x.bytes (x.es ++ e ∷ []) → heard_as g ≡ hear_now S h.end h.taken e →
      Adds W o p t.holds holds (said_by h e) → Underway S W s g c p (traffic_of t.unread t.left t.held holds)
  goes-on laws s h g c o p t holds e live x came now added = record {
    events = x.es ++ e ∷ [];
    bytes = x.bytes;
    are_bytes = x.are_bytes;
    read = x.read;
    came = came;
    written = subst (HasWritten W p t.held holds) (sym (laws.go_on.says_next s x.es h.end h.taken e live x.heard))
        (adds o p t.held t.holds holds (so_far s x.es) (said_by h e) x.written added);
    heard = laws.go_on.hears_next s x.es h.end h.taken e x.heard ∙ sym now;
  }

  -- an event that is refused says nothing
  refused-says : (h : EndState F) (e : Event F) (code : ℕ) → hear_now S h.end h.taken e ≡ Refused_for code →
      said_by h e ≡ []
  refused-says h (Came p) code is = refl
  refused-says h (Failed n) code is = refl
  refused-says h Ended code is = by (ended h.taken) is where
    stands : (f : End F) → stands_at f ≡ Refused_for code → ⊥
    stands f = by_over (is_over f.stage) where
      by_over : (b : Bool) → (if b then Over_at f else Goes_on f (nothing_taken f)) ≡ Refused_for code → ⊥
      by_over true wrong = cc
      by_over false wrong = cc

    by : (a : Answer F) → ended_by h.end h.taken a ≡ Refused_for code → replied a ≡ []
    by (Replies N) is = absurd (stands (after_ended h.end h.taken (Replies N)) is)
    by Ends is = refl
    by (answered.Refuses n) is = refl

  -- what was said before begins what is called for
  begun : Laws S W → (s : Speaker F) (h : EndState F) (o : SenderState) (t : Traffic) (e : Event F) (x : At s h o t e) →
      (more : List (Message F)) × (called_by S W s x.bytes ≡ so_far s x.es ++ more)
  begun laws s h o t e x =
      let r = laws.begin s x.es (e ∷ x.rest) in
      (r.0, ap (λ l. own S s (messages_of [] l)) (x.all ∙ append_assoc x.es (e ∷ []) x.rest) ∙ r.1)

  -- no message more was written
  first-kept : Laws S W →
      (s : Speaker F) (h : EndState F) (o p : SenderState) (t : Traffic) (holds : Option (List ℕ)) (e : Event F)
      (x : At s h o t e) →
      Adds W o p t.holds holds [] →
      WroteFirst S W s p (traffic_of t.unread t.left t.held holds) x.bytes
  first-kept laws s h o p t holds e x added =
      let b = begun laws s h o t e x in
      wrote-first s p (traffic_of t.unread t.left t.held holds) x.bytes (so_far s x.es) b.0 b.1
      (adds-nothing o p t.held t.holds holds (so_far s x.es) x.written added)

  heard-next : (s : Speaker F) (h : EndState F) (o : SenderState) (t : Traffic) (e : Event F) (x : At s h o t e) →
      hears S s (x.es ++ e ∷ []) ≡ hear_now S h.end h.taken e
  heard-next s h o t e x = fold-append (hear S) (begins s) x.es (e ∷ []) ∙ ap (λ y. hear S y e) x.heard

  -- after a stop at the event nothing more is said
  nothing-more : Laws S W → (s : Speaker F) (h : EndState F) (o : SenderState) (t : Traffic) (e : Event F) →
      is_live s.start.stage ≡ true → (x : At s h o t e) →
      has_stopped (hear_now S h.end h.taken e) ≡ true → said_by h e ≡ [] → said_to S W s x.bytes ≡ so_far s x.es
  nothing-more laws s h o t e live x stopped none =
      ap (λ l. so_far s l) x.all ∙ laws.go_on.says_no_more s (x.es ++ e ∷ []) x.rest live
      (ap has_stopped (heard-next s h o t e x) ∙ stopped)
      ∙ laws.go_on.says_next s x.es h.end h.taken e live x.heard
      ∙ ap (λ (l : List (Message F)). so_far s x.es ++ l) none
      ∙ append-nil (so_far s x.es)

  -- the event itself stops the session
  pub stops-refusing : (T : ℕ → ℕ → Type 0) → Laws S W →
      (s : Speaker F) (h : EndState F) (o p : SenderState) (t : Traffic) (holds : Option (List ℕ)) (r : Seen)
      (broken : Bool) (e : Event F) (stop : Stop) →
      is_live s.start.stage ≡ true → At s h o t e → Refuses S h e stop → Adds W o p t.holds holds [] →
      Stopped S W T s p (traffic_of t.unread t.left t.held holds) r broken stop
  stops-refusing T laws s h o p t holds r broken e stop live x refuses added =
      record { bytes = x.bytes; are_bytes = x.are_bytes; read = x.read; why = by stop refuses } where
        u2 : Traffic
        u2 = traffic_of t.unread t.left t.held holds

        still : HasWritten W p t.held holds (so_far s x.es)
        still = adds-nothing o p t.held t.holds holds (so_far s x.es) x.written added

        told : {code : ℕ} → hear_now S h.end h.taken e ≡ Peer_refused code →
            hearing_to S W s r.ended x.bytes ≡ Peer_refused code
        told now = laws.go_on.hears_no_more W s r.ended x.bytes (x.es ++ e ∷ []) x.rest x.all
            (ap has_stopped (heard-next s h o t e x ∙ now)) ∙ (heard-next s h o t e x ∙ now)

        -- a side that was refused has said all that was called for
        called : {code : ℕ} → hear_now S h.end h.taken e ≡ Peer_refused code →
            called_by S W s x.bytes ≡ said_to S W s x.bytes
        called now =
            let Ms = messages_in W x.bytes in
            (subst (AgreesBy (session S s Ms) (says S s Ms) (own S s Ms)) (told now)
            (laws.agree s r.ended x.bytes live)).1

        by : (stop : Stop) → Refuses S h e stop → WhyStopped S W T s p u2 r broken x.bytes stop
        by (stops.Refused code) is =
            let heard = heard-next s h o t e x ∙ is in
            let said = nothing-more laws s h o t e live x (ap has_stopped is) (refused-says h e code is) in (
              inl (first-kept laws s h o p t holds e x added),
              inl (first-at laws s r.ended x.bytes (so_far s x.es) p.sent code live
                  (laws.go_on.hears_no_more W s r.ended x.bytes (x.es ++ e ∷ []) x.rest x.all
                  (ap has_stopped heard) ∙ heard) said still.count),
            )
        by (stops.PeerRefused code) is =
            let now : hear_now S h.end h.taken e ≡ Peer_refused code = ap (hear_now S h.end h.taken) is in
            let said = nothing-more laws s h o t e live x (ap has_stopped now) (ap (said_by h) is) in
            let frames : events_in x.bytes ≡ x.es ++ Failed code ∷ x.rest =
            x.all ∙ append_assoc x.es (e ∷ []) x.rest ∙ ap (λ y. x.es ++ y ∷ x.rest) is in
            record {
              said = said-all s p u2 x.bytes (so_far s x.es) said still;
              frame = ap (λ l. fault_of l) frames ∙ first-frame S W (begins s) x.es x.rest h.end h.taken code x.heard;
              told = told now;
              called = called now;
            }
        by stops.Memory is = inl (first-kept laws s h o p t holds e x added)
        by (stops.Io side) is = absurd is

  -- its reply is not said
  stops-unsaid : Laws S W →
      (s : Speaker F) (h : EndState F) (o p : SenderState) (t : Traffic) (holds : Option (List ℕ)) (r : Seen)
      (broken : Bool) (e : Event F) (stop : Stop) →
      is_live s.start.stage ≡ true → At s h o t e → Unsaid W o p t.holds holds broken (said_by h e) stop →
      Stopped S W (IsTimely p.sent) s p (traffic_of t.unread t.left t.held holds) r broken stop
  stops-unsaid laws s h o p t holds r broken e stop live x unsaid =
      record { bytes = x.bytes; are_bytes = x.are_bytes; read = x.read; why = by stop unsaid } where
        u2 : Traffic
        u2 = traffic_of t.unread t.left t.held holds

        begun_next : (more : List (Message F)) × (called_by S W s x.bytes ≡ so_far s (x.es ++ e ∷ []) ++ more)
        begun_next = let r = laws.begin s (x.es ++ e ∷ []) x.rest in
            (r.0, ap (λ l. own S s (messages_of [] l)) x.all ∙ r.1)

        some : Adds W o p t.holds holds (said_by h e) → WroteFirst S W s p u2 x.bytes
        some added =
            wrote-first s p u2 x.bytes (so_far s (x.es ++ e ∷ [])) begun_next.0 begun_next.1
            (subst (HasWritten W p t.held holds) (sym (laws.go_on.says_next s x.es h.end h.taken e live x.heard))
            (adds o p t.held t.holds holds (so_far s x.es) (said_by h e) x.written added))

        -- it was called for, and not said
        fewer : Adds W o p t.holds holds [] → 0 < length (said_by h e) → p.sent < length (called_by S W s x.bytes)
        fewer added one =
            let next = ap (λ (l : List (Message F)). length l)
            (laws.go_on.says_next s x.es h.end h.taken e live x.heard) in
            omega (
              arith,
              added.count,
              x.written.count,
              next,
              one,
              length-append (so_far s x.es) (said_by h e),
              ap (λ (l : List (Message F)). length l) begun_next.1,
              length-append (so_far s (x.es ++ e ∷ [])) begun_next.0,
            )

        by : (stop : Stop) → Unsaid W o p t.holds holds broken (said_by h e) stop →
            WhyStopped S W (IsTimely p.sent) s p u2 r broken x.bytes stop
        by (stops.Refused code) (inl (uncounted, one, added)) =
            (inl (first-kept laws s h o p t holds e x added), inr (inr (inl (uncounted, fewer added one))))
        by (stops.Refused code) (inr (shut, one, added)) =
            (inl (some added), inr (inr (inr (shut, omega (arith, added.count, one)))))
        by (stops.PeerRefused code) is = absurd is
        by stops.Memory added = inl (first-kept laws s h o p t holds e x added)
        by (stops.Io side) (write, failed, part) =
            let one = laws.go_on.says_next s x.es h.end h.taken e live x.heard
            ∙ ap (λ (l : List (Message F)). so_far s x.es ++ l) part.one in
            let calls = begun_next.1 ∙ ap (λ (l : List (Message F)). l ++ begun_next.0) one
            ∙ append_assoc (so_far s x.es) (part.message ∷ []) begun_next.0 in
            let broke = breaks-in-message S W s o p u2 t.holds x.bytes (so_far s x.es) begun_next.0 part.message calls
            x.written part.same part.front in
            let cut = cut-in-message S W s o p u2 t.holds x.bytes (so_far s x.es) begun_next.0 part.message calls
            x.written part.same part.front in (
              broke,
              subst (HasBroken r broken x.bytes) (sym write) failed,
              subst (IsCut (length broke.all) (length (session_text W (called_by S W s x.bytes)))) (sym write) cut,
            )

  pub stops-event : Laws S W →
      (s : Speaker F) (h : EndState F) (o p : SenderState) (t : Traffic) (holds : Option (List ℕ)) (r : Seen)
      (broken : Bool) (e : Event F) (stop : Stop) →
      is_live s.start.stage ≡ true → At s h o t e → StopsBy S W h e o p t.holds holds broken stop →
      Stopped S W (IsTimely p.sent) s p (traffic_of t.unread t.left t.held holds) r broken stop
  stops-event laws s h o p t holds r broken e stop live x (inl (refuses, added)) =
      stops-refusing (IsTimely p.sent) laws s h o p t holds r broken e stop live x refuses added
  stops-event laws s h o p t holds r broken e stop live x (inr unsaid) =
      stops-unsaid laws s h o p t holds r broken e stop live x unsaid

  -- ---- no event comes

  unfaulted : (to : Standing) (e : End F) (t : Taken F) → fault_at to ≡ None →
      stop_at to (Goes_on e t) ≡ Goes_on e t
  unfaulted Before_hello e t none = refl
  unfaulted (In_message parts) e t none = refl
  unfaulted Meaning_over e t none = refl
  unfaulted (Faulted code) e t none = absurd cc

  faulty : (s : Speaker F) (over : Bool) (bytes : List ℕ) (es : List (Event F)) (e : End F) (t : Taken F)
      (code : ℕ) →
      IsFaulty W over bytes es code → hears S s es ≡ Goes_on e t →
      hearing_to S W s over bytes ≡ Refused_for code
  faulty s over bytes es e t code is at =
      let to = (feed W Before_hello bytes).to in
      ap (λ l. with_end over (stop_at to (hears S s l))) is.events ∙ ap (λ x. with_end over (stop_at to x)) at
      ∙ by is.fault where
        by : (((feed W Before_hello bytes).to ≡ Faulted code) ⊎
            ((code ≡ truncated) × IsTrue over × (fault_at (feed W Before_hello bytes).to ≡ None))) →
            with_end over (stop_at (feed W Before_hello bytes).to (Goes_on e t)) ≡ Refused_for code
        by (inl fault) = ap (λ x. with_end over (stop_at x (Goes_on e t))) fault
        by (inr (three, end, none)) =
            ap (with_end over) (unfaulted (feed W Before_hello bytes).to e t none)
            ∙ ap (λ b. if b then Refused_for truncated else Goes_on e t) end ∙ ap Refused_for (sym three)

  -- all events handed out were heard, and no more comes; what was written is a beginning of what all events call for
  pub why-unheard : (T : ℕ → ℕ → Type 0) → Laws S W →
      (s : Speaker F) (h : EndState F) (o : SenderState) (t : Traffic) (r : Seen) (broken : Bool) (stop : Stop)
      (bytes : List ℕ) (es : List (Event F)) →
      is_live s.start.stage ≡ true → o.sent ≡ length (so_far s es) →
      ((rest : List (Event F)) → events_in bytes ≡ es ++ rest → WroteUpTo S W s o t bytes) →
      hears S s es ≡ Goes_on h.end h.taken → StopsAt W r bytes es stop → WhyStopped S W T s o t r broken bytes stop
  why-unheard T laws s h o t r broken (stops.Refused code) bytes es live count wrote heard is = (
    wrote [] (is.events ∙ sym (append-nil es)),
    inl (first-at laws s r.ended bytes (so_far s es) o.sent code live
        (faulty s r.ended bytes es h.end h.taken code is heard)
        (ap (λ l. so_far s l) is.events) count),
  )
  why-unheard T laws s h o t r broken (stops.PeerRefused code) bytes es live count wrote heard is = absurd is
  why-unheard T laws s h o t r broken stops.Memory bytes es live count wrote heard is = wrote is.0 is.1
  why-unheard T laws s h o t r broken (stops.Io side) bytes es live count wrote heard (read, why, begins) =
      let broke = breaks-after S W s o t bytes (wrote begins.0 begins.1) in (
        broke,
        subst (HasBroken r broken bytes) (sym read) why,
        subst (IsCut (length broke.all) (length (session_text W (called_by S W s bytes)))) (sym read) tt,
      )

  pub stops-unheard-by : (T : ℕ → ℕ → Type 0) → Laws S W →
      (s : Speaker F) (h : EndState F) (o : SenderState) (t : Traffic) (r : Seen) (broken : Bool) (stop : Stop)
      (bytes : List ℕ) (es : List (Event F)) →
      is_live s.start.stage ≡ true →
      IsBytes bytes → Takes t.unread t.left bytes → o.sent ≡ length (so_far s es) →
      ((rest : List (Event F)) → events_in bytes ≡ es ++ rest → WroteUpTo S W s o t bytes) →
      hears S s es ≡ Goes_on h.end h.taken → StopsAt W r bytes es stop → Stopped S W T s o t r broken stop
  stops-unheard-by T laws s h o t r broken stop bytes es live are read count wrote heard unheard = record {
    bytes = bytes;
    are_bytes = are;
    read = read;
    why = why-unheard T laws s h o t r broken stop bytes es live count wrote heard unheard;
  }

  pub stops-unheard : (T : ℕ → ℕ → Type 0) → Laws S W →
      (s : Speaker F) (h : EndState F) (o : SenderState) (t : Traffic) (r : Seen) (broken : Bool) (stop : Stop)
      (bytes : List ℕ) (es : List (Event F)) →
      is_live s.start.stage ≡ true →
      IsBytes bytes → Takes t.unread t.left bytes → HasWritten W o t.held t.holds (so_far s es) →
      hears S s es ≡ Goes_on h.end h.taken → StopsAt W r bytes es stop → Stopped S W T s o t r broken stop
  stops-unheard T laws s h o t r broken stop bytes es live are read written heard unheard =
      stops-unheard-by T laws s h o t r broken stop bytes es live are read written.count wrote heard unheard where
        wrote : (rest : List (Event F)) → events_in bytes ≡ es ++ rest → WroteUpTo S W s o t bytes
        wrote rest all =
            let first = laws.begin s es rest in
            inl (wrote-first s o t bytes (so_far s es) first.0
            (ap (λ l. own S s (messages_of [] l)) all ∙ first.1) written)

  pub stops-underway : Laws S W →
      (s : Speaker F) (h : EndState F) (b : InboxState) (o : SenderState) (t : Traffic) (left : Option (List ℕ))
      (r : Seen) (broken : Bool) (stop : Stop) →
      is_live s.start.stage ≡ true →
      (u : Underway S W s h b o t) → is_over h.end.stage ≡ false →
      ((bytes : List ℕ) × IsBytes bytes × Consumes t.left left bytes
      × StopsAt W r (u.bytes ++ bytes) u.events stop) →
      Stopped S W (IsTimely o.sent) s o (traffic_of t.unread left t.held t.holds) r broken stop
  stops-underway laws s h b o t left r broken stop live u goes more =
      stops-unheard (IsTimely o.sent) laws s h o (traffic_of t.unread left t.held t.holds) r broken stop
      (u.bytes ++ more.0) u.events live
      (All-append (λ y. y < 256) u.bytes more.0 u.are_bytes more.1)
      (takes-on t.unread t.left left u.bytes more.0 u.read more.2) u.written
      (u.heard ∙ heard-goes S W h goes) more.3

  -- ---- the session is over

  pub finished : Laws S W → (s : Speaker F) (h : EndState F) (b : InboxState) (o : SenderState) (t : Traffic) →
      is_live s.start.stage ≡ true → Underway S W s h b o t → is_over h.end.stage ≡ true → Finished S W s h.end o t
  finished laws s h b o t live u over =
      let Ms = messages_in W u.bytes in
      let at : hears S s u.events ≡ Over_at h.end = u.heard ∙ heard-over S W h over in
      let after = all-events b u.bytes u.events u.came in
      let told = laws.go_on.hears_no_more W s false u.bytes u.events after.0 after.1 (ap has_stopped at) ∙ at in
      let agreed = subst (AgreesBy (session S s Ms) (says S s Ms) (own S s Ms)) told
      (laws.agree s false u.bytes live) in
      let said : said_to S W s u.bytes ≡ so_far s u.events =
      ap (λ l. so_far s l) after.1 ∙ laws.go_on.says_no_more s u.events after.0 live (ap has_stopped at) in
      record {
        bytes = u.bytes;
        are_bytes = u.are_bytes;
        read = u.read;
        said = said-all s o t u.bytes (so_far s u.events) said u.written;
        end = agreed.0;
        over = over;
        called = agreed.2;
      }
