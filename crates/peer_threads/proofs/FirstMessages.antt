-- The first message, before any end is there to hear it.
--
-- What is read of it are its parts. Those that may stand first are heard by whoever would answer, and say nothing; the
-- first that may not refuses, as does an end that may not come. Where the session stops among them, it is stopped for
-- all whom it may have met.
use Rattle.std.proofs.Common.{◌≡◌, ℕ, ◌<◌, Bool, true, false, List, [], ◌∷◌, ◌++◌, Option, Some}
use Rattle.std.proofs.Common.{None, inl, inr, refl, sym, ap, ◌∙◌, subst, append-nil}
use Rattle.std.proofs.Common.{append_assoc, map}
use Rattle.std.specs.Prelude.{fold}
use Rattle.std.proofs.lemmas.List.{map-append}
use Rattle.std.specs.Io.KnownBytes.{Consumes}
use Rattle.definitions.proofs.Lemmas.{All-append, fold-append}
use Rattle.definitions.specs.Accounts.{Seen}
use Rattle.definitions.specs.Fingerprints.{Summary}
use Rattle.definitions.specs.Items.{IsBytes}
use Rattle.definitions.specs.Messages.{Part, Message}
use Rattle.definitions.specs.Placing.{Place, First, After, Refused, next, refusal, finish, opening_fault}
use Rattle.definitions.specs.Replies.{Peer}
use Rattle.definitions.specs.Streams.{messages_of}
use Rattle.definitions.specs.Wire.{Profile, IsProfile, Event, Came, Ended}
use Rattle.definitions.specs.Ends.{End, responder}
use Rattle.definitions.specs.Engines.{responding, says}
use Rattle.definitions.specs.Taking.{Taken, taken, nothing_taken, ended_unless}
use Rattle.definitions.specs.Hearing.{Goes_on, goes_unless, ended_by, hear, hears}
use Rattle.peer_threads.specs.declared.stop.Stop.{Stop}
use Rattle.peer_threads.specs.declared.stop.Stop.TheVariants as stops
use Rattle.peer_threads.specs.Outcomes.{Traffic, Takes, traffic_of}
use Rattle.peer_threads.specs.Inboxes.{InboxState, HasRead, StopsAt, Reads}
use Rattle.peer_threads.specs.Senders.{SenderState, HasWritten}
use Rattle.peer_threads.specs.Underway.{first_held, first_place, MayBegin, message_came, FirstWent}
use Rattle.peer_threads.specs.Underway.{StopsBegun, Exchanged, StopsFirst, Refuses, IsNone}
use Rattle.peer_threads.specs.Underway.{Stopped}
use Rattle.peer_threads.proofs.Origins.{takes-on}
use Rattle.peer_threads.proofs.Hearings.{adds-none}
use Rattle.peer_threads.proofs.InboxSteps.{reads_nothing, reads_so, reads_then}
use Rattle.peer_threads.specs.Laws.{Laws}
use Rattle.peer_threads.proofs.Exchanges.{More, all-events, stops-refusing}
use Rattle.peer_threads.proofs.Exchanges.{stops-unheard}

module _ {F : Type 0} (S : Summary F) (W : Profile F) where
  pub reads-on : (t : Traffic) (left : Option (List ℕ)) (b c : InboxState) (o : SenderState) (es fs : List (Event F))
      (x : Exchanged W b o t es) →
      More S W t.left left c x.bytes fs →
      Exchanged W c o (traffic_of t.unread left t.held t.holds) fs
  reads-on t left b c o es fs x more = record {
    bytes = x.bytes ++ more.0;
    are_bytes = All-append (λ y. y < 256) x.bytes more.0 x.are_bytes more.1;
    read = takes-on t.unread t.left left x.bytes more.0 x.read more.2;
    came = more.3;
    written = x.written;
  }

  -- whoever would answer has a place that the parts alone tell
  place-held : (e : End F) (t : Taken F) (M : Message F) → (fold (taken S e) t M).place ≡ fold next t.place M
  place-held e t [] = refl
  place-held e t (p ∷ M) = place-held e (taken S e t p) M

  pub place-first : (P : Peer) (M : Message F) → (first_held S P M).taken.place ≡ first_place S M
  place-first P M = place-held (responder S P) (nothing_taken (responder S P)) M

  -- a part that may not come next, and an end that may not
  pub part-refused : (P : Peer) (M : Message F) (p : Part F) (code : ℕ) →
      Some code ≡ refusal (next (first_place S M) p) → Refuses S (first_held S P M) (Came p) (stops.Refused code)
  part-refused P M p code is =
      let h = first_held S P M in
      ap (λ x. goes_unless (refusal (next x p)) (Goes_on h.end (taken S h.end h.taken p))) (place-first P M)
      ∙ ap (λ o. goes_unless o (Goes_on h.end (taken S h.end h.taken p))) (sym is)

  pub end-refused : (P : Peer) (M : Message F) (code : ℕ) → Some code ≡ finish (first_place S M) →
      Refuses S (first_held S P M) Ended (stops.Refused code)
  end-refused P M code is =
      let h = first_held S P M in
      ap (λ x. ended_by h.end h.taken (ended_unless h.taken (finish x))) (place-first P M)
      ∙ ap (λ o. ended_by h.end h.taken (ended_unless h.taken o)) (sym is)

  -- and those that may
  pub place-next : (M N : Message F) (p : Part F) (x : Place F) → N ≡ M ++ p ∷ [] → x ≡ next (first_place S M) p →
      x ≡ first_place S N
  place-next M N p x new at =
      at ∙ sym (ap (first_place S) new ∙ fold-append next (First S.may_cut) M (p ∷ []))

  pub went-part : (M N : Message F) (p : Part F) (e : Event F) (x : Place F) → e ≡ Came p → N ≡ M ++ p ∷ [] →
      x ≡ next (first_place S M) p → None ≡ refusal x → FirstWent S M N e false
  went-part M N p e x is new at fine = (p, is, new, ap refusal (sym (place-next M N p x new at)) ∙ sym fine)

  pub went-end : (M N : Message F) (e : Event F) → e ≡ Ended → N ≡ M → None ≡ finish (first_place S M) →
      FirstWent S M N e true
  went-end M N e is same fine = (is, same, ap (opening_fault S.may_cut) same ∙ sym fine)

  -- a refusal stays
  stays-refused : (code : ℕ) (M : Message F) → fold next (Refused code) M ≡ Refused code
  stays-refused code [] = refl
  stays-refused code (p ∷ M) = stays-refused code M

  -- whoever would answer has heard the parts that may stand first
  heard-parts : (e : End F) (t : Taken F) (M : Message F) → refusal (fold next t.place M) ≡ None →
      fold (hear S) (Goes_on e t) (map Came M) ≡ Goes_on e (fold (taken S e) t M)
  heard-parts e t [] fits = refl
  heard-parts e t (p ∷ M) fits =
      ap (λ h. fold (hear S) h (map Came M)) (by (next t.place p) refl) ∙ heard-parts e (taken S e t p) M fits where
        by : (x : Place F) → next t.place p ≡ x →
            goes_unless (refusal (next t.place p)) (Goes_on e (taken S e t p)) ≡ Goes_on e (taken S e t p)
        by (First cut) is = ap (λ y. goes_unless (refusal y) (Goes_on e (taken S e t p))) is
        by (After left inside) is = ap (λ y. goes_unless (refusal y) (Goes_on e (taken S e t p))) is
        by (Refused code) is =
            let wrong : Some code ≡ None =
            sym (ap (λ x. refusal (fold next x M)) is ∙ ap refusal (stays-refused code M)) ∙ fits in
            absurd cc

  pub parts-heard : (P : Peer) (M : Message F) → MayBegin S M →
      hears S (responding S P) (map Came M) ≡ Goes_on (first_held S P M).end (first_held S P M).taken
  parts-heard P M fits = heard-parts (responder S P) (nothing_taken (responder S P)) M fits

  -- parts alone are no message, so nothing is said to them
  pub none-whole : (acc M : Message F) → messages_of acc (map Came M) ≡ []
  none-whole acc [] = refl
  none-whole acc (p ∷ M) = none-whole (acc ++ p ∷ []) M

  pub unsaid : (P : Peer) (M : Message F) → says S (responding S P) (messages_of [] (map Came M)) ≡ []
  unsaid P M = ap (says S (responding S P)) (none-whole [] M)

  -- the message that its events are
  pub message-begins : (acc M : Message F) (more : List (Event F)) →
      messages_of acc (message_came M ++ more) ≡ (acc ++ M) ∷ messages_of [] more
  message-begins acc [] more = ap (λ N. N ∷ messages_of [] more) (sym (append-nil acc))
  message-begins acc (p ∷ M) more =
      message-begins (acc ++ p ∷ []) M more
      ∙ ap (λ N. N ∷ messages_of [] more) (append_assoc acc (p ∷ []) M)

  -- one event more of those of a message
  part-after : (es : List (Event F)) (M N : Message F) (e : Event F) (p : Part F) → e ≡ Came p → N ≡ M ++ p ∷ [] →
      (es ++ map Came M) ++ e ∷ [] ≡ es ++ map Came N
  part-after es M N e p is new =
      ap (λ x. (es ++ map Came M) ++ x ∷ []) is ∙ append_assoc es (map Came M) (Came p ∷ [])
      ∙ ap (λ l. es ++ l) (sym (ap (map Came) new ∙ map-append Came M (p ∷ [])))

  end-after : (es : List (Event F)) (M N : Message F) (e : Event F) → e ≡ Ended → N ≡ M →
      (es ++ map Came M) ++ e ∷ [] ≡ es ++ message_came N
  end-after es M N e is same =
      ap (λ x. (es ++ map Came M) ++ x ∷ []) is ∙ append_assoc es (map Came M) (Ended ∷ [])
      ∙ ap (λ L. es ++ message_came L) (sym same)

  -- what the events of a first message make of all that was read
  abbrev pub HasParts : InboxState → Message F → List ℕ → List (Event F) → Type 0
  HasParts b M bytes es = HasRead W b bytes (es ++ map Came M)

  pub parts-fit : (M : Message F) → M ≡ [] → MayBegin S M
  parts-fit M none = ap (λ N. refusal (first_place S N)) none

  pub parts-none : IsProfile W → (unread : Option (List ℕ)) (b : InboxState) (M : Message F) → M ≡ [] →
      Reads W unread unread b (HasParts b M)
  parts-none real unread b M none = reads_nothing W real unread b (HasParts b M)
      (λ bytes es fits has. subst (HasRead W b bytes) (sym (ap (λ N. es ++ map Came N) none ∙ append-nil es)) has)

  pub parts-more : IsProfile W → (unread mid left : Option (List ℕ)) (b c d : InboxState) (M N : Message F)
      (e : Event F) → FirstWent S M N e false → Reads W unread mid b (HasParts c M) →
      Reads W mid left c (λ bytes es. HasRead W d bytes (es ++ e ∷ [])) → Reads W unread left b (HasParts d N)
  parts-more real unread mid left b c d M N e went first second =
      reads_so W real unread left b (λ bytes es. HasRead W d bytes ((es ++ map Came M) ++ e ∷ [])) (HasParts d N)
      (λ bytes es fits has. subst (HasRead W d bytes) (part-after es M N e went.0 went.1 went.2) has)
      (reads_then W real unread mid left b c (λ es. es ++ map Came M)
      (λ bytes es. HasRead W d bytes (es ++ e ∷ [])) first second)

  pub parts-ended : IsProfile W → (unread mid left : Option (List ℕ)) (b c d : InboxState) (M N : Message F)
      (e : Event F) → FirstWent S M N e true → Reads W unread mid b (HasParts c M) →
      Reads W mid left c (λ bytes es. HasRead W d bytes (es ++ e ∷ [])) →
      Reads W unread left b (λ bytes es. HasRead W d bytes (es ++ message_came N))
  parts-ended real unread mid left b c d M N e went first second =
      reads_so W real unread left b (λ bytes es. HasRead W d bytes ((es ++ map Came M) ++ e ∷ []))
      (λ bytes es. HasRead W d bytes (es ++ message_came N))
      (λ bytes es fits has. subst (HasRead W d bytes) (end-after es M N e went.0 went.1) has)
      (reads_then W real unread mid left b c (λ es. es ++ map Came M)
      (λ bytes es. HasRead W d bytes (es ++ e ∷ [])) first second)

  -- the stream itself stops it
  pub parts-stopped : IsProfile W → (input : Seen) (unread mid left : Option (List ℕ)) (b c d : InboxState)
      (M : Message F) (stop : Stop) → MayBegin S M → Reads W unread mid b (HasParts c M) →
      Reads W mid left c (λ bytes es. StopsAt W input bytes es stop) →
      Reads W unread left b (λ bytes es. StopsBegun S W input d bytes es stop)
  parts-stopped real input unread mid left b c d M stop fits first second =
      reads_so W real unread left b (λ bytes es. StopsAt W input bytes (es ++ map Came M) stop)
      (λ bytes es. StopsBegun S W input d bytes es stop) (λ bytes es are stopped. (M, fits, inl stopped))
      (reads_then W real unread mid left b c (λ es. es ++ map Came M) (λ bytes es. StopsAt W input bytes es stop) first
      second)

  -- an event that may not come next does
  pub parts-refused : IsProfile W → (input : Seen) (unread mid left : Option (List ℕ)) (b c d : InboxState)
      (M : Message F) (e : Event F) (stop : Stop) → MayBegin S M →
      ((P : Peer) → Refuses S (first_held S P M) e stop) → Reads W unread mid b (HasParts c M) →
      Reads W mid left c (λ bytes es. HasRead W d bytes (es ++ e ∷ [])) →
      Reads W unread left b (λ bytes es. StopsBegun S W input d bytes es stop)
  parts-refused real input unread mid left b c d M e stop fits refuses first second =
      reads_so W real unread left b (λ bytes es. HasRead W d bytes ((es ++ map Came M) ++ e ∷ []))
      (λ bytes es. StopsBegun S W input d bytes es stop)
      (λ bytes es are has. (M, fits, inr (record { event = e; came = has; refuses = refuses })))
      (reads_then W real unread mid left b c (λ es. es ++ map Came M)
      (λ bytes es. HasRead W d bytes (es ++ e ∷ [])) first second)

  stops-there : Laws S W →
      (P : Peer) (M : Message F) (b c : InboxState) (o : SenderState) (t : Traffic) (left : Option (List ℕ))
      (r : Seen) (broken : Bool) (stop : Stop) (es : List (Event F)) →
      says S (responding S P) (messages_of [] es) ≡ [] →
      hears S (responding S P) es ≡ Goes_on (first_held S P M).end (first_held S P M).taken →
      (x : Exchanged W b o t []) →
      ((bytes : List ℕ) × IsBytes bytes × Consumes t.left left bytes × StopsFirst S W M r c (x.bytes ++ bytes) es
      stop) →
      Stopped S W IsNone (responding S P) o (traffic_of t.unread left t.held t.holds) r broken stop
  stops-there laws P M b c o t left r broken stop es quiet heard x more = by more.3 where
    bytes : List ℕ
    bytes = x.bytes ++ more.0

    are : IsBytes bytes
    are = All-append (λ y. y < 256) x.bytes more.0 x.are_bytes more.1

    read : Takes t.unread left bytes
    read = takes-on t.unread t.left left x.bytes more.0 x.read more.2

    wrote : HasWritten W o t.held t.holds (says S (responding S P) (messages_of [] es))
    wrote = subst (HasWritten W o t.held t.holds) (sym quiet) x.written

    by : StopsFirst S W M r c bytes es stop →
        Stopped S W IsNone (responding S P) o (traffic_of t.unread left t.held t.holds) r broken stop
    by (inl stopped) = stops-unheard S W IsNone laws (responding S P) (first_held S P M) o
        (traffic_of t.unread left t.held t.holds) r broken stop bytes es refl are read wrote heard stopped
    by (inr there) =
        let after = all-events S W c bytes (es ++ there.event ∷ []) there.came in
        stops-refusing S W IsNone laws (responding S P) (first_held S P M) o o
        (traffic_of t.unread left t.held t.holds) t.holds r broken there.event stop refl
        (record {
          bytes = bytes;
          are_bytes = are;
          read = read;
          es = es;
          rest = after.0;
          all = after.1;
          written = wrote;
          heard = heard;
        }) (there.refuses P) (adds-none S W o t.holds)

  -- it goes on no more, after some parts that may stand first
  pub stops-begun : Laws S W →
      (P : Peer) (b c : InboxState) (o : SenderState) (t : Traffic) (left : Option (List ℕ)) (r : Seen) (broken : Bool)
      (stop : Stop) (x : Exchanged W b o t []) →
      ((bytes : List ℕ) × IsBytes bytes × Consumes t.left left bytes × StopsBegun S W r c (x.bytes ++ bytes) [] stop) →
      Stopped S W IsNone (responding S P) o (traffic_of t.unread left t.held t.holds) r broken stop
  stops-begun laws P b c o t left r broken stop x (bytes, are, read, (M, fits, stopped)) =
      stops-there laws P M b c o t left r broken stop (map Came M) (unsaid P M) (parts-heard P M fits) x
      (bytes, are, read, stopped)
