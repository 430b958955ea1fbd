-- What is heard frame by frame, beside what whole messages make of an end.
--     Agrees S e Ms events h      h is what the events make of the end, and Ms are the messages in them
--     FramesAgree S               of every end that takes messages
--     BytesAgree S P              of a side and the bytes that it reads
--     FramesSay S                 what is said while frames are heard, and nothing after a stop
--     HearingsGoOn S              one event more, and what comes after a stop, of a side and the bytes that it reads
--     OwnBegins S                 what was said begins what is called for
--     OwnIsFew S, OwnIsShort S    whatever the messages are, few are called for, and their lists are short
use Rattle.std.specs.Prelude.{◌≡◌, ◌⊎◌, ℕ, ◌+◌, ◌≤◌, length, Bool, true, false, List, [], ◌∷◌, ◌++◌, IsFalse, fold}
use Rattle.definitions.specs.Fingerprints.{Summary}
use Rattle.std.specs.List.{AllByRecursion}
use Rattle.definitions.specs.Messages.{Part, Message, RangesRise}
use Rattle.definitions.specs.Replies.{Peer}
use Rattle.definitions.specs.Strategies.{IsTable}
use Rattle.definitions.specs.Ranks.{Accepted}
use Rattle.definitions.specs.Theorems.{Ready, opened, rank, IsShort}
use Rattle.definitions.specs.Wire.{Profile, Event, Came, Ended, Failed}
use Rattle.definitions.specs.Streams.{Before_hello, feed, messages_of}
use Rattle.definitions.specs.Refusals.{too_many_parts}
use Rattle.definitions.specs.Ends.{End, heard, is_live, is_over, is_sendable}
use Rattle.definitions.specs.Engines.{Speaker, replied, answers, calls, says, own, initiating, responding, session}
use Rattle.definitions.specs.Engines.{messages_in}
use Rattle.definitions.specs.Taking.{Taken, nothing_taken, ended}
use Rattle.definitions.specs.Hearing.{Hearing, Goes_on, Over_at, Peer_refused, Refused_for, hear, hear_now}
use Rattle.definitions.specs.Hearing.{hears, hearing_to}

-- all that is called for may be said, but for one reply with too many parts, which is refused
abbrev pub SaidBut : {F : Type 0} → List (Message F) → List (Message F) → ℕ → Type 0
SaidBut {F} said called code =
    (called ≡ said) ⊎ ((code ≡ too_many_parts) × (N : Message F) × IsFalse (is_sendable N) × (called ≡ said ++ N ∷ []))

-- e is the end after the whole messages, what they call for is said, and o is the code of the first fault frame
abbrev pub AgreesBy : {F : Type 0} → End F → List (Message F) → List (Message F) → Hearing F → Type 0
AgreesBy e said called (Goes_on f t) = (f ≡ e) × (is_live f.stage ≡ true) × (called ≡ said)
AgreesBy e said called (Over_at f) = (f ≡ e) × (is_over f.stage ≡ true) × (called ≡ said)
AgreesBy e said called (Peer_refused code) = (is_over e.stage ≡ false) × (called ≡ said)
AgreesBy e said called (Refused_for code) = (is_over e.stage ≡ false) × SaidBut said called code

abbrev pub Agrees : {F : Type 0} → Summary F → End F → List (Message F) → Hearing F → Type 0
Agrees S e Ms h = AgreesBy (heard S e Ms) (answers S e Ms) (calls S e Ms) h

abbrev pub FramesAgree : {F : Type 0} → Summary F → Type 0
FramesAgree {F} S = (e : End F) (events : List (Event F)) → is_live e.stage ≡ true →
    Agrees S e (messages_of [] events) (fold (hear S) (Goes_on e (nothing_taken e)) events)

abbrev pub BytesAgree : {F : Type 0} → Summary F → Profile F → Type 0
BytesAgree {F} S P = (s : Speaker F) (over : Bool) (bytes : List ℕ) → is_live s.start.stage ≡ true →
    AgreesBy (session S s (messages_in P bytes)) (says S s (messages_in P bytes)) (own S s (messages_in P bytes))
    (hearing_to S P s over bytes)

abbrev pub OwnIsFew : {F : Type 0} → Summary F → Type 0
OwnIsFew {F} S = (P : Peer) (f : List ℕ) (Ms : List (Message F)) → Ready P f → AllByRecursion RangesRise Ms →
    (length (own S (initiating S P) Ms) ≤ opened S f P + 2) × (length (own S (responding S P) Ms) ≤ rank f P + 1)

abbrev pub OwnIsShort : {F : Type 0} → Summary F → Type 0
OwnIsShort {F} S =
    (P : Peer) (Ms : List (Message F)) → IsTable P.table → Accepted P.table → length P.items ≤ P.table.cap →
    AllByRecursion (AllByRecursion (IsShort P.table.limit)) (own S (initiating S P) Ms)
    × AllByRecursion (AllByRecursion (IsShort P.table.limit)) (own S (responding S P) Ms)

-- ---- what is said while frames are heard

abbrev pub has_stopped : {F : Type 0} → Hearing F → Bool
has_stopped (Goes_on e t) = false
has_stopped (Over_at e) = true
has_stopped (Peer_refused code) = true
has_stopped (Refused_for code) = true

-- said tells what is said to these events and to more of them: a part or a fault frame adds nothing, the end of a
-- message its reply; after a stop nothing more is said
abbrev pub SaysOn : {F : Type 0} → (List (Event F) → List (Message F)) → Hearing F → Type 0
SaysOn {F} said (Goes_on e t) = ((p : Part F) → said (Came p ∷ []) ≡ said [])
    × (said (Ended ∷ []) ≡ said [] ++ replied (ended t)) × ((code : ℕ) → said (Failed code ∷ []) ≡ said [])
SaysOn {F} said (Over_at e) = (more : List (Event F)) → said more ≡ said []
SaysOn {F} said (Peer_refused code) = (more : List (Event F)) → said more ≡ said []
SaysOn {F} said (Refused_for code) = (more : List (Event F)) → said more ≡ said []

abbrev pub FramesSay : {F : Type 0} → Summary F → Type 0
FramesSay {F} S = (e : End F) (events : List (Event F)) → is_live e.stage ≡ true →
    SaysOn (λ more. answers S e (messages_of [] (events ++ more))) (fold (hear S) (Goes_on e (nothing_taken e)) events)

-- what a side says to these events
abbrev pub said_to_events : {F : Type 0} → Summary F → Speaker F → List (Event F) → List (Message F)
said_to_events S s events = says S s (messages_of [] events)

-- what one event more adds to it, by what was taken of its message
abbrev pub adds : {F : Type 0} → Taken F → Event F → List (Message F)
adds t (Came p) = []
adds t Ended = replied (ended t)
adds t (Failed code) = []

pub record HearingsGoOn {F : Type 0} (S : Summary F) : Type 0 where
  -- while it goes on, one event more is heard, and its reply is said
  pub hears_next : (s : Speaker F) (events : List (Event F)) (e : End F) (t : Taken F) (event : Event F) →
      hears S s events ≡ Goes_on e t → hears S s (events ++ event ∷ []) ≡ hear_now S e t event
  pub says_next : (s : Speaker F) (events : List (Event F)) (e : End F) (t : Taken F) (event : Event F) →
      is_live s.start.stage ≡ true → hears S s events ≡ Goes_on e t →
      said_to_events S s (events ++ event ∷ []) ≡ said_to_events S s events ++ adds t event
  -- once it has stopped, nothing more is said, and the same is heard of all bytes whose events begin so
  pub says_no_more : (s : Speaker F) (events rest : List (Event F)) → is_live s.start.stage ≡ true →
      has_stopped (hears S s events) ≡ true → said_to_events S s (events ++ rest) ≡ said_to_events S s events
  pub hears_no_more : (P : Profile F) (s : Speaker F) (over : Bool) (bytes : List ℕ) (events rest : List (Event F)) →
      (feed P Before_hello bytes).events ≡ events ++ rest → has_stopped (hears S s events) ≡ true →
      hearing_to S P s over bytes ≡ hears S s events

-- what was said so far begins what all events call for
abbrev pub OwnBegins : {F : Type 0} → Summary F → Type 0
OwnBegins {F} S = (s : Speaker F) (events rest : List (Event F)) →
    (more : List (Message F)) × (own S s (messages_of [] (events ++ rest)) ≡ says S s (messages_of [] events) ++ more)
