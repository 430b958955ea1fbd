-- A session between two frames, and how it stops.
--     most_sent S side h             the greatest number of messages that an end sends
--     heard_as h                     where the end h stands, as a stream is heard
--     Underway s h b o t             the end h is the side's after the events handed out, and what it says was written
--     first_held S P M               the end of a responder P that took these parts of a first message
--     MayBegin S M                   these parts may stand first
--     message_came M                 the events of a message
--     FirstWent S M N e ended        what an event makes of the parts of a first message
--     StopsAmong S h M stop          why this side stops at one of these parts
--     Exchanged b o t es             these events were handed out of the bytes read, and the hello alone was written
--     StopsFirst M r b bytes es stop    why a first message goes on no more after its parts M, whoever would answer
--     StopsBegun r b bytes es stop   the same after some parts that may stand first
--     Refuses h e stop               the event itself stops the session
--     BreaksSaying o p held holds Ms   a part of the one message was written
--     StopsBy h e o p held holds broken stop      why this side stops at an event; `broken`: whether the writer failed
--     BreaksOff s k t bytes          what was written breaks off after k messages, in one more, or in the hello
--     Stopped T s o t r broken stop  why it goes on no more, and what was written; a refusal is of the bytes, or of T
--     Finished s e o t               its session is over
--     Talked s e o t r broken result     what a call leaves that goes on to the end
--     Leaves o held holds broken failed stop      what a stop writes after all else
--     Spoke s version bound t r w o  what an outcome says, of the bytes that were read
use Rattle.std.specs.Prelude.{◌≡◌, ℕ, ◌+◌, ◌≤◌, ◌<◌, ◌^◌, ◌⊎◌, Bool, true, false, List, [], ◌∷◌, ◌++◌, length, map}
use Rattle.std.specs.Prelude.{fold, Option, Some, None}
use Rattle.std.specs.Prelude.{Result, Ok, Err, IsTrue, IsFalse, if◌then◌else◌, slice_get, ⊤}
use Rattle.std.specs.Io.KnownBytes.{Appends, Keeps}
use Rattle.definitions.specs.Fingerprints.{Summary}
use Rattle.definitions.specs.Items.{IsBytes}
use Rattle.definitions.specs.Messages.{Part, Message}
use Rattle.definitions.specs.Placing.{Place, First, next, refusal, opening_fault}
use Rattle.definitions.specs.Refusals.{no_memory, too_many_parts, unknown, over_bound, gate_closed}
use Rattle.definitions.specs.Wire.{Profile, message_text, session_text, Event, Came, Ended, Failed}
use Rattle.definitions.specs.Streams.{messages_of}
use Rattle.definitions.specs.Replies.{Peer}
use Rattle.definitions.specs.Ends.{End, responder, is_over, is_sendable}
use Rattle.definitions.specs.Engines.{Speaker, says, fault_frame, text}
use Rattle.definitions.specs.Hearing.{Hearing, Goes_on, Over_at, Peer_refused, Refused_for, hear_now, hear, hears}
use Rattle.definitions.specs.Hearing.{hearing_to}
use Rattle.definitions.specs.Accounts.{Seen, BrokeOff}
use Rattle.laws.specs.Hearing.{adds}
use Rattle.definitions.specs.Worlds.{Side}
use Rattle.ends_core.specs.EndStates.{EndState}
use Rattle.ends_core.specs.Roles.{bound_of}
use Rattle.ends_core.specs.Turns.{fresh, after_parts}
use Rattle.session_table.specs.declared.outcome.Outcome.{Outcome}
use Rattle.session_table.specs.declared.outcome.Direction.{Direction}
use Rattle.session_table.specs.declared.outcome.Direction.TheVariants as directions
use Rattle.peer_threads.specs.declared.stop.Stop.{Stop}
use Rattle.peer_threads.specs.declared.stop.Stop.TheVariants as stops
use Rattle.peer_threads.specs.Outcomes.{Traffic, Takes, SaidAll, Bears, call_of, IsTimely, IsCut}
use Rattle.session_table.specs.Sent.{sent_in}
use Rattle.ends_core.specs.Sides.{called_by, said_to, session_at}
use Rattle.peer_threads.specs.Inboxes.{InboxState, HasRead, StopsAt}
use Rattle.peer_threads.specs.Senders.{SenderState, HasWritten, Adds, BreaksIn, WroteSo, refusal_text}

abbrev pub most_sent : {F : Type 0} → Summary F → Side → EndState F → ℕ
most_sent S side h = bound_of side S.may_cut h.end.peer.table h.steps (length h.end.peer.items)

abbrev pub heard_as : {F : Type 0} → EndState F → Hearing F
heard_as h = if is_over h.end.stage then Over_at h.end else Goes_on h.end h.taken

-- ---- one event

abbrev pub said_by : {F : Type 0} → EndState F → Event F → List (Message F)
said_by h e = adds h.taken e

-- this side refuses the event, or it tells that the peer refused, or memory runs out
abbrev pub Refuses : {F : Type 0} → Summary F → EndState F → Event F → Stop → Type 0
Refuses S h e (stops.Refused code) = hear_now S h.end h.taken e ≡ Refused_for code
Refuses S h e (stops.PeerRefused code) = e ≡ Failed code
Refuses S h e stops.Memory = ⊤
Refuses S h e (stops.Io side) = ⊥

-- the table of sessions did not count a message
abbrev pub IsUncounted : ℕ → Type 0
IsUncounted code = (code ≡ unknown) ⊎ (code ≡ over_bound)

module _ {F : Type 0} (W : Profile F) where
  -- of the one message a proper beginning was written
  pub record BreaksSaying (o p : SenderState) (held holds : Option (List ℕ)) (Ms : List (Message F)) : Type 0 where
    pub same : p ≡ o
    pub message : Message F
    pub one : Ms ≡ message ∷ []
    pub front : BreaksIn held holds (message_text W message)

  -- why a message is not said: it was not counted, and nothing was written; or the gate closed after it
  abbrev pub Unsaid : SenderState → SenderState → Option (List ℕ) → Option (List ℕ) → Bool → List (Message F) → Stop →
      Type 0
  Unsaid o p held holds broken Ms (stops.Refused code) =
      (IsUncounted code × (0 < length Ms) × Adds W o p held holds [])
      ⊎ ((code ≡ gate_closed) × (0 < length Ms) × Adds W o p held holds Ms)
  Unsaid o p held holds broken Ms (stops.PeerRefused code) = ⊥
  Unsaid o p held holds broken Ms stops.Memory = Adds W o p held holds []
  Unsaid o p held holds broken Ms (stops.Io side) =
      (side ≡ directions.Write) × IsTrue broken × BreaksSaying o p held holds
      Ms

-- ---- before a session is opened

abbrev pub first_held : {F : Type 0} → Summary F → Peer → Message F → EndState F
first_held S P M = after_parts S (fresh [] (responder S P)) M

-- where a first message stands after these parts
abbrev pub first_place : {F : Type 0} → Summary F → Message F → Place F
first_place S M = fold next (First S.may_cut) M

abbrev pub MayBegin : {F : Type 0} → Summary F → Message F → Type 0
MayBegin S M = refusal (first_place S M) ≡ None

abbrev pub message_came : {F : Type 0} → Message F → List (Event F)
message_came M = map Came M ++ Ended ∷ []

-- one part more, which may come next, or the end of a whole message
abbrev pub FirstWent : {F : Type 0} → Summary F → Message F → Message F → Event F → Bool → Type 0
FirstWent {F} S M N e false = (p : Part F) × (e ≡ Came p) × (N ≡ M ++ p ∷ []) × MayBegin S N
FirstWent S M N e true = (e ≡ Ended) × (N ≡ M) × (opening_fault S.may_cut N ≡ None)

-- the parts in front of it were heard
pub record StopsAmong {F : Type 0} (S : Summary F) (h : EndState F) (M : Message F) (stop : Stop) : Type 0 where
  pub front : Message F
  pub part : Part F
  pub back : Message F
  pub all : M ≡ front ++ part ∷ back
  pub at : EndState F
  pub heard : fold (hear S) (Goes_on h.end h.taken) (map Came front) ≡ Goes_on at.end at.taken
  pub refuses : Refuses S at (Came part) stop

module _ {F : Type 0} (W : Profile F) where
  pub record Exchanged (b : InboxState) (o : SenderState) (t : Traffic) (es : List (Event F)) : Type 0 where
    pub bytes : List ℕ
    pub are_bytes : IsBytes bytes
    pub read : Takes t.unread t.left bytes
    pub came : HasRead W b bytes es
    pub written : HasWritten W o t.held t.holds []

-- ---- the end of a session

-- nothing was written, not the hello either
pub record WroteNone (o : SenderState) (t : Traffic) : Type 0 where
  pub greeted : o.greeted ≡ false
  pub none : o.sent ≡ 0
  pub written : Appends t.held t.holds []

-- the one reply that is called for and was not written has too many parts
pub record IsLong {F : Type 0} (called : List (Message F)) (k code : ℕ) : Type 0 where
  pub twelve : code ≡ too_many_parts
  pub count : length called ≡ k + 1
  pub reply : Message F
  pub last : slice_get called k ≡ Some reply
  pub long : IsFalse (is_sendable reply)

-- the side of the connection that is named has failed
abbrev pub HasBroken : Seen → Bool → List ℕ → Direction → Type 0
HasBroken r broken bytes directions.Read = IsTrue r.failed ⊎ (2 ^ 32 ≤ length bytes)
HasBroken r broken bytes directions.Write = IsTrue broken

-- no table of sessions was asked
abbrev pub IsNone : ℕ → ℕ → Type 0
IsNone called code = ⊥

module _ {F : Type 0} (W : Profile F) where
  -- what a refusal writes after all else: nothing where the connection failed, or the peer refused
  abbrev pub Leaves : SenderState → Option (List ℕ) → Option (List ℕ) → Bool → Bool → Stop → Type 0
  Leaves o held holds broken failed (stops.Refused code) = WroteSo held holds failed (refusal_text W o code)
  Leaves o held holds broken failed stops.Memory = WroteSo held holds failed (refusal_text W o no_memory)
  Leaves o held holds broken failed (stops.PeerRefused code) = Keeps held holds
  Leaves o held holds broken failed (stops.Io side) = Keeps held holds × (failed ≡ broken)

module _ {F : Type 0} (S : Summary F) (W : Profile F) where
  pub record Underway (s : Speaker F) (h : EndState F) (b : InboxState) (o : SenderState) (t : Traffic) : Type 0 where
    pub events : List (Event F)
    pub bytes : List ℕ
    pub are_bytes : IsBytes bytes
    pub read : Takes t.unread t.left bytes
    pub came : HasRead W b bytes events
    pub written : HasWritten W o t.held t.holds (says S s (messages_of [] events))
    pub heard : hears S s events ≡ heard_as h

  -- ---- one event

  -- so it stops, and writes no message; or its reply is not said
  abbrev pub StopsBy : EndState F → Event F → SenderState → SenderState → Option (List ℕ) → Option (List ℕ) → Bool →
      Stop →
      Type 0
  StopsBy h e o p held holds broken stop =
      (Refuses S h e stop × Adds W o p held holds []) ⊎ Unsaid W o p held holds broken (said_by h e) stop

  -- ---- before a session is opened

  -- whoever would answer, it stops at the next event
  pub record StopsThere (M : Message F) (b : InboxState) (bytes : List ℕ) (es : List (Event F))
      (stop : Stop) : Type 0 where
    pub event : Event F
    pub came : HasRead W b bytes (es ++ event ∷ [])
    pub refuses : (P : Peer) → Refuses S (first_held S P M) event stop

  abbrev pub StopsFirst : Message F → Seen → InboxState → List ℕ → List (Event F) → Stop → Type 0
  StopsFirst M r b bytes es stop = StopsAt W r bytes es stop ⊎ StopsThere M b bytes es stop

  abbrev pub StopsBegun : Seen → InboxState → List ℕ → List (Event F) → Stop → Type 0
  StopsBegun r b bytes es stop = (M : Message F) × MayBegin S M × StopsFirst M r b bytes (es ++ map Came M) stop

  -- ---- the end of a session

  -- the first messages that the bytes call for were written, after the hello: so many
  pub record WroteFirst (s : Speaker F) (o : SenderState) (t : Traffic) (bytes : List ℕ) : Type 0 where
    pub greeted : IsTrue o.greeted
    pub count : o.sent ≤ length (called_by S W s bytes)
    pub written : Appends t.held t.holds (text W o.sent (called_by S W s bytes))

  abbrev pub WroteUpTo : Speaker F → SenderState → Traffic → List ℕ → Type 0
  WroteUpTo s o t bytes = WroteFirst s o t bytes ⊎ WroteNone o t

  -- the first fault in the bytes, after all that they call for and may be said
  pub record IsFirst (s : Speaker F) (over : Bool) (bytes : List ℕ) (k code : ℕ) : Type 0 where
    pub first : hearing_to S W s over bytes ≡ Refused_for code
    pub after : (length (called_by S W s bytes) ≡ k) ⊎ IsLong (called_by S W s bytes) k code

  -- a fault frame stands after all that was answered
  pub record IsTold (s : Speaker F) (o : SenderState) (t : Traffic) (over : Bool) (bytes : List ℕ)
      (code : ℕ) : Type 0 where
    pub said : SaidAll S W s t bytes o.sent
    pub frame : fault_frame W bytes ≡ Some code
    pub told : hearing_to S W s over bytes ≡ Peer_refused code
    pub called : called_by S W s bytes ≡ said_to S W s bytes

  -- exactly so many of the messages that the bytes call for were written whole, and nothing after the beginning of one
  -- more: whatever the version is, and whatever is seen of the reader and the writer
  pub record BreaksOff (s : Speaker F) (k : ℕ) (t : Traffic) (bytes : List ℕ) : Type 0 where
    pub all : List ℕ
    pub written : Appends t.held t.holds all
    pub broke : (version : ℕ) (r w : Seen) → BrokeOff S W (call_of s version bytes all r w) k

  abbrev pub WhyStopped : (ℕ → ℕ → Type 0) → Speaker F → SenderState → Traffic → Seen → Bool → List ℕ → Stop → Type 0
  WhyStopped T s o t r broken bytes (stops.Refused code) =
      WroteUpTo s o t bytes × (IsFirst s r.ended bytes o.sent code ⊎ T (length (called_by S W s bytes)) code)
  WhyStopped T s o t r broken bytes (stops.PeerRefused code) = IsTold s o t r.ended bytes code
  WhyStopped T s o t r broken bytes stops.Memory = WroteUpTo s o t bytes
  WhyStopped T s o t r broken bytes (stops.Io side) =
      (b : BreaksOff s o.sent t bytes) × HasBroken r broken bytes side
      × IsCut (length b.all) (length (session_text W (called_by S W s bytes))) side

  pub record Stopped (T : ℕ → ℕ → Type 0) (s : Speaker F) (o : SenderState) (t : Traffic) (r : Seen) (broken : Bool)
      (stop : Stop) : Type 0 where
    pub bytes : List ℕ
    pub are_bytes : IsBytes bytes
    pub read : Takes t.unread t.left bytes
    pub why : WhyStopped T s o t r broken bytes stop

  -- the session is over, and all was said
  pub record Finished (s : Speaker F) (e : End F) (o : SenderState) (t : Traffic) : Type 0 where
    pub bytes : List ℕ
    pub are_bytes : IsBytes bytes
    pub read : Takes t.unread t.left bytes
    pub said : SaidAll S W s t bytes o.sent
    pub end : e ≡ session_at S W s bytes
    pub over : IsTrue (is_over e.stage)
    pub called : called_by S W s bytes ≡ said_to S W s bytes

  abbrev pub Talked : Speaker F → End F → SenderState → Traffic → Seen → Bool → Result (Unit {0}) Stop → Type 0
  Talked s e o t r broken (Ok x) = Finished s e o t
  Talked s e o t r broken (Err stop) = Stopped (IsTimely o.sent) s o t r broken stop

  pub record Spoke (s : Speaker F) (version bound : ℕ) (t : Traffic) (r w : Seen) (o : Outcome) : Type 0 where
    pub bytes : List ℕ
    pub are_bytes : IsBytes bytes
    pub read : Takes t.unread t.left bytes
    pub bears : Bears S W s version t r w bytes o
    pub few : sent_in o ≤ bound
