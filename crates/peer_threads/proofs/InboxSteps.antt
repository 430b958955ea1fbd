-- What an inbox has read and handed out, step by step.
--
-- All bytes that were read are those that were fed, and then those that wait. To feed some of the latter moves the
-- seam between the two; to read, where none wait, puts new bytes after it. A stream may be cut anywhere, so at each
-- seam the events that were handed out begin those of all bytes. Where nothing waits they are all of them.
use Rattle.std.proofs.Common.{◌≡◌, ℕ, ◌+◌, ◌-◌, ◌<◌, ◌≤◌, inl, inr, Bool}
use Rattle.std.proofs.Common.{List, [], ◌∷◌, ◌++◌, length, take, drop, Option, Some, None, Result, Ok, Err, IsTrue}
use Rattle.std.proofs.Common.{refl, sym, ap, ◌∙◌, subst, append_assoc, append-nil, arith}
use Rattle.std.proofs.lemmas.List.{length-append, length-take, take-append-drop, drop-take, drop-drop}
use Rattle.std.proofs.Math.Seq.{take-length}
use Rattle.std.specs.Io.KnownBytes.{Consumes}
use Rattle.std.proofs.KnownBytes.{Consumes-trans, Consumes-nil}
use Rattle.definitions.specs.Items.{IsBytes}
use Rattle.definitions.specs.Refusals.{truncated}
use Rattle.definitions.specs.Accounts.{Seen}
use Rattle.definitions.specs.Wire.{Profile, IsProfile, Event}
use Rattle.definitions.specs.Streams.{Standing, Before_hello, In_message, Meaning_over, Faulted, Fed, feed}
use Rattle.laws.proofs.Fields.{IsBytes-both, rest_fits, front_fits}
use Rattle.laws.proofs.Streams.{feeds_joined}
use Rattle.wire_core.specs.Events.{event_value}
use Rattle.wire_core.specs.Feeds.{StreamState, Holds, fed_into, Continues, fault_at}
use Rattle.wire_core.specs.Feeds.{refusal_in, UnlessMemory}
use Rattle.wire_core.specs.Nexts.{TakesNext}
use Rattle.wire_core.specs.Refused.{fault_number}
use Rattle.wire_core.specs.declared.event.Event as declared
use Rattle.wire_core.specs.declared.fault.DecodeError.{DecodeError}
use Rattle.wire_core.specs.declared.fault.DecodeError.TheVariants as errors
use Rattle.peer_threads.specs.Inboxes.{InboxState, stream, HasRead, IsFaulty, StopsAt, SoFar, Reads, Held, FetchStops}
use Rattle.peer_threads.specs.Stops.{of_decoding}
use Rattle.peer_threads.specs.declared.stop.Stop.{Stop}
use Rattle.peer_threads.specs.declared.stop.Stop.TheVariants as stops

-- ---- a piece

-- what is taken off the front of a part of a list
pub skipped : (from taken end : ℕ) (xs now : List ℕ) → take (end - from) (drop from xs) ≡ now → taken ≤ length now →
    take (end - (from + taken)) (drop (from + taken) xs) ≡ drop taken now
skipped from taken end xs now is few =
    let l = ap length is in
    let t = length-take (end - from) (drop from xs) in
    let whole : end - from ≡ taken + (end - (from + taken)) = omega arith in
    ap (take (end - (from + taken))) (sym (drop-drop taken from xs))
    ∙ sym (drop-take taken (end - (from + taken)) (drop from xs))
    ∙ ap (λ (n : ℕ). drop taken (take n (drop from xs))) (sym whole)
    ∙ ap (drop taken) is

fault_is : (s : Standing) (code : ℕ) → Some code ≡ fault_at s → s ≡ Faulted code
fault_is Before_hello code is = absurd cc
fault_is (In_message parts) code is = absurd cc
fault_is Meaning_over code is = absurd cc
fault_is (Faulted fault) code is = let same : code ≡ fault = cc in ap Faulted (sym same)

no-bytes : (xs : List ℕ) → length xs ≡ 0 → xs ≡ []
no-bytes [] is = refl
no-bytes (x ∷ xs) is = absurd (omega (arith, is))

module _ {F : Type 0} (W : Profile F) (real : IsProfile W) where
  abbrev Events : Type 0
  Events = List (Event F)

  abbrev Claim : Type 1
  Claim = List ℕ → Events → Type 0

  -- ---- what was read so far

  pub has_read : (b : InboxState) (bytes fed : List ℕ) (es : Events) → bytes ≡ fed ++ b.waiting → IsBytes bytes →
      Holds W b.feed fed es → b.reads ≤ length bytes → length es ≤ length fed → HasRead W b bytes es
  has_read b bytes fed es split fits holds counted took =
      let front = front_fits bytes fed b.waiting split fits in
      let back = rest_fits bytes fed b.waiting split fits in
      let join = feeds_joined W real Before_hello fed b.waiting front back in
      record {
        fed = fed;
        split = split;
        fits = front;
        holds = holds;
        more = (feed W b.feed.standing (b.feed.kept ++ b.waiting)).events;
        events = ap (λ (bs : List ℕ). (stream W bs).events) split
            ∙ ap (λ (f : Fed F). f.events) join
            ∙ ap (λ (f : Fed F). f.events ++ (feed W f.to (f.kept ++ b.waiting)).events) holds;
        counted = counted;
        took = took;
      }

  -- what is fed now
  abbrev now_fed : StreamState → List ℕ → Fed F
  now_fed s piece = feed W s.standing (s.kept ++ piece)

  -- some of the bytes that wait are fed
  moved : (b c : InboxState) (taken : ℕ) (made : Events) → Continues W b.feed (take taken b.waiting) c.feed →
      (now_fed b.feed (take taken b.waiting)).events ≡ made → c.waiting ≡ drop taken b.waiting → c.reads ≡ b.reads →
      length made ≤ length (take taken b.waiting) → SoFar W b (λ bytes es. HasRead W c bytes (es ++ made))
  moved b c taken made joined events left same some bytes es fits has =
      let front = take taken b.waiting in
      let split : bytes ≡ (has.fed ++ front) ++ c.waiting =
      has.split
      ∙ ap (λ (bs : List ℕ). has.fed ++ bs) (sym (take-append-drop taken b.waiting))
      ∙ sym (append_assoc has.fed front (drop taken b.waiting))
      ∙ ap (λ (bs : List ℕ). (has.fed ++ front) ++ bs) (sym left) in
      let holds = subst (λ (new : Events). Holds W c.feed (has.fed ++ front) (es ++ new)) events
      (joined has.fed es has.fits has.holds) in
      let before = has.counted in
      let took = has.took in
      let all = length-append es made in
      let now = length-append has.fed front in
      has_read c bytes (has.fed ++ front) (es ++ made) split fits holds (omega arith) (omega arith)

  -- they make no event
  moved_on : (b c : InboxState) (taken : ℕ) (piece : List ℕ) → take taken b.waiting ≡ piece →
      Continues W b.feed (take taken b.waiting) c.feed → now_fed b.feed piece ≡ fed_into [] c.feed →
      c.waiting ≡ drop taken b.waiting → c.reads ≡ b.reads → SoFar W b (HasRead W c)
  moved_on b c taken piece is joined fed left same bytes es fits has =
      let none = ap (λ (bs : List ℕ). (now_fed b.feed bs).events) is ∙ ap (λ (f : Fed F). f.events) fed in
      subst (HasRead W c bytes) (append-nil es) (moved b c taken [] joined none left same (omega arith) bytes es fits
      has)

  -- ---- the next event

  held_next : (b c : InboxState) (taken : ℕ) (made : Option (declared.Event F)) →
      TakesNext W b.feed b.waiting (Ok (taken, made)) c.feed → Continues W b.feed (take taken b.waiting) c.feed →
      c.waiting ≡ drop taken b.waiting → c.reads ≡ b.reads →
      SoFar W b (λ bytes es. (s : Seen) → Held W s c bytes es (Ok made))
  held_next b c taken None (all, fed) joined left same bytes es fits has s =
      let whole : take taken b.waiting ≡ b.waiting =
      ap (λ (n : ℕ). take n b.waiting) all ∙ take-length b.waiting in
      moved_on b c taken b.waiting whole joined fed left same bytes es fits has
  held_next b c taken (Some e) (some, most, text, fed, none) joined left same bytes es fits has s =
      let t = length-take taken b.waiting in
      moved b c taken (event_value e ∷ []) joined (ap (λ (f : Fed F). f.events) fed) left same (omega arith) bytes es
      fits has

  pub held : (b c : InboxState) (rest : List ℕ) → rest ≡ b.waiting → (taken : ℕ) (made : Option (declared.Event F)) →
      TakesNext W b.feed rest (Ok (taken, made)) c.feed → Continues W b.feed (take taken rest) c.feed →
      c.waiting ≡ drop taken b.waiting → c.reads ≡ b.reads →
      SoFar W b (λ bytes es. (s : Seen) → Held W s c bytes es (Ok made))
  held b c rest same taken made fed joined left count = held_next b c taken made
      (subst (λ (bs : List ℕ). TakesNext W b.feed bs (Ok (taken, made)) c.feed) same fed)
      (subst (λ (bs : List ℕ). Continues W b.feed (take taken bs) c.feed) same joined) left count

  -- ---- why there is none

  -- what was fed is faulty, whatever waits after it
  fault_stays : (s : StreamState) (bytes fed back : List ℕ) (es : Events) (code : ℕ) → bytes ≡ fed ++ back →
      IsBytes bytes → Holds W s fed es → s.standing ≡ Faulted code → (over : Bool) → IsFaulty W over bytes es code
  fault_stays s bytes fed back es code split fits holds faulted over =
      let front = front_fits bytes fed back split fits in
      let rest = rest_fits bytes fed back split fits in
      let all = ap (stream W) split ∙ feeds_joined W real Before_hello fed back front rest in
      let after = ap (λ (to : Standing). feed W to (s.kept ++ back)) faulted in
      let at = ap (λ (f : Fed F). feed W f.to (f.kept ++ back)) holds ∙ after in
      record {
        events = ap (λ (f : Fed F). f.events) all
            ∙ ap (λ (f : Fed F). f.events ++ (feed W f.to (f.kept ++ back)).events) holds
            ∙ ap (λ (f : Fed F). es ++ f.events) after
            ∙ append-nil es;
        fault = inl (ap (λ (f : Fed F). f.to) all ∙ ap (λ (f : Fed F). f.to) at);
      }

  abbrev failed : DecodeError → Result (ℕ × Option (declared.Event F)) DecodeError
  failed e = Err e

  -- there is a fault in the bytes that were fed, or no memory for them
  pub stopped : (b : InboxState) (s : StreamState) (piece back : List ℕ) (e : DecodeError) → b.waiting ≡ piece ++ back →
      TakesNext W b.feed piece (failed e) s →
      UnlessMemory (failed e) (refusal_in (failed e) ≡ fault_at s.standing) →
      UnlessMemory (failed e) (Continues W b.feed piece s) →
      SoFar W b (λ bytes es. (seen : Seen) → StopsAt W seen bytes es (of_decoding e))
  stopped b s piece back (errors.Fault f) parts fed known joined bytes es fits has seen =
      let split : bytes ≡ (has.fed ++ piece) ++ back =
      has.split ∙ ap (λ (bs : List ℕ). has.fed ++ bs) parts ∙ sym (append_assoc has.fed piece back) in
      let none = ap (λ (fed : Fed F). es ++ fed.events) fed ∙ append-nil es in
      let holds = subst (Holds W s (has.fed ++ piece)) none (joined has.fed es has.fits has.holds) in
      let faulted = fault_is s.standing (fault_number f) known in
      fault_stays s bytes (has.fed ++ piece) back es (fault_number f) split fits holds faulted seen.ended
  stopped b s piece back errors.Memory parts fed known joined bytes es fits has seen = (has.more, has.events)

  -- ---- one read

  -- where nothing waits, all that was read is fed
  all_of : (b : InboxState) (bytes : List ℕ) (es : Events) → b.waiting ≡ [] → (has : HasRead W b bytes es) →
      bytes ≡ has.fed
  all_of b bytes es none has = has.split ∙ ap (λ (bs : List ℕ). has.fed ++ bs) none ∙ append-nil has.fed

  all_fed : (b : InboxState) (bytes : List ℕ) (es : Events) → b.waiting ≡ [] → HasRead W b bytes es →
      Holds W b.feed bytes es
  all_fed b bytes es none has =
      subst (λ (bs : List ℕ). Holds W b.feed bs es) (sym (all_of b bytes es none has)) has.holds

  -- bytes came, and wait
  pub came : (unread left : Option (List ℕ)) (b c : InboxState) → b.waiting ≡ [] → c.feed ≡ b.feed → IsBytes c.waiting →
      c.reads ≡ b.reads + 1 → 0 < length c.waiting → Consumes unread left c.waiting →
      Reads W unread left b (HasRead W c)
  came unread left b c none same fits count some read bytes es right has =
      let holds = subst (λ (s : StreamState). Holds W s bytes es) (sym same) (all_fed b bytes es none has) in
      let all = IsBytes-both bytes c.waiting right fits in
      let before = has.counted in
      let counted : c.reads ≤ length (bytes ++ c.waiting) = omega (arith, length-append bytes c.waiting) in
      let fed = ap (λ (l : List ℕ). length l) (all_of b bytes es none has) in
      let took = has.took in
      (c.waiting, fits, read, has_read c (bytes ++ c.waiting) bytes es refl all holds counted (omega arith))

  -- none came, since the input ended
  pub ended_read : (unread left : Option (List ℕ)) (b c : InboxState) (s : Seen) (code : ℕ) (piece : List ℕ) →
      b.waiting ≡ [] → c.feed ≡ b.feed → length piece ≡ 0 → Consumes unread left piece → IsTrue s.ended →
      code ≡ truncated →
      Reads W unread left b (λ bytes es. FetchStops W s c bytes es (stops.Refused code))
  ended_read unread left b c s code piece none same nil read ended three bytes es right has =
      let holds = subst (λ (state : StreamState). Holds W state bytes es) (sym same) (all_fed b bytes es none has) in (
        [],
        tt,
        subst (Consumes unread left) (no-bytes piece nil) read,
        (subst (λ (bs : List ℕ). Holds W c.feed bs es) (sym (append-nil bytes)) holds, three, ended),
      )

  -- what stops a read, where the stream has no fault
  pub fetch_stops : (s : Seen) (c : InboxState) (stop : Stop) → fault_at c.feed.standing ≡ None →
      (bytes : List ℕ) (es : Events) → FetchStops W s c bytes es stop → StopsAt W s bytes es stop
  fetch_stops over c (stops.PeerRefused code) fine bytes es stopped = absurd stopped
  fetch_stops over c (stops.Refused code) fine bytes es (holds, three, end) = record {
    events = ap (λ (f : Fed F). f.events) holds;
    fault = inr (three, end, ap (λ (f : Fed F). fault_at f.to) holds ∙ fine);
  }
  fetch_stops over c (stops.Io side) fine bytes es stopped = stopped
  fetch_stops over c stops.Memory fine bytes es stopped = absurd stopped

  -- ---- one read after another

  -- nothing more was read
  pub reads_nothing : (unread : Option (List ℕ)) (b : InboxState) (Q : Claim) → SoFar W b Q → Reads W unread unread b Q
  reads_nothing unread b Q known before es fits has =
      let now = subst (λ (bytes : List ℕ). Q bytes es) (sym (append-nil before)) (known before es fits has) in
      ([], tt, Consumes-nil unread, now)

  -- what follows from what was read, with no reading
  pub reads_so : (unread left : Option (List ℕ)) (b : InboxState) (P Q : Claim) →
      ((bytes : List ℕ) (es : Events) → IsBytes bytes → P bytes es → Q bytes es) → Reads W unread left b P →
      Reads W unread left b Q
  reads_so unread left b P Q so reads before es fits has =
      let one = reads before es fits has in
      (one.0, one.1, one.2, so (before ++ one.0) es (IsBytes-both before one.0 fits one.1) one.3)

  -- something is fed, and then more is read
  pub reads_more : (unread mid left : Option (List ℕ)) (b c d : InboxState) (Q : Claim) →
      Reads W unread mid b (HasRead W c) → SoFar W c (HasRead W d) → Reads W mid left d Q → Reads W unread left b Q
  reads_more unread mid left b c d Q first fed second before es fits has =
      let one = first before es fits has in
      let both = IsBytes-both before one.0 fits one.1 in
      let two = second (before ++ one.0) es both (fed (before ++ one.0) es both one.3) in (
        one.0 ++ two.0,
        IsBytes-both one.0 two.0 one.1 two.1,
        Consumes-trans unread mid left one.0 two.0 one.2 two.2,
        subst (λ (bytes : List ℕ). Q bytes es) (append_assoc before one.0 two.0) two.3,
      )

  -- events were handed out, and then more is read
  pub reads_then : (unread mid left : Option (List ℕ)) (b c : InboxState) (so_far : Events → Events) (Q : Claim) →
      Reads W unread mid b (λ bytes es. HasRead W c bytes (so_far es)) → Reads W mid left c Q →
      Reads W unread left b (λ bytes es. Q bytes (so_far es))
  reads_then unread mid left b c so_far Q first second before es fits has =
      let one = first before es fits has in
      let both = IsBytes-both before one.0 fits one.1 in
      let two = second (before ++ one.0) (so_far es) both one.3 in (
        one.0 ++ two.0,
        IsBytes-both one.0 two.0 one.1 two.1,
        Consumes-trans unread mid left one.0 two.0 one.2 two.2,
        subst (λ (bytes : List ℕ). Q bytes (so_far es)) (append_assoc before one.0 two.0) two.3,
      )
