-- A stream as an end hears it, frame by frame.
--     Hearing F                    where it stands: it goes on, the session is over, or why it stopped
--     hear S h e                   what one event makes of it
--     hears S s events             what a side makes of these, from the beginning on
--     hearing_in S P s bytes       what it makes of bytes, whose first frame that is none it refuses
--     hearing_to S P s over bytes  the same where the input has ended after them, if it has
--     first_fault h                the number by which this side refuses, if it does
-- The refusal is the one of the earliest frame: a frame is judged as bytes before the end takes what it says.
use Rattle.std.specs.Prelude.{ℕ, Bool, List, Option, Some, None, fold, if◌then◌else◌}
use Rattle.definitions.specs.Fingerprints.{Summary}
use Rattle.definitions.specs.Placing.{next, refusal}
use Rattle.definitions.specs.Wire.{Profile, Event, Came, Ended, Failed}
use Rattle.definitions.specs.Streams.{Standing, Before_hello, In_message, Meaning_over, Faulted, Fed, feed}
use Rattle.definitions.specs.Refusals.{truncated}
use Rattle.definitions.specs.Ends.{End, Answer, Replies, Ends, Refuses, is_over}
use Rattle.definitions.specs.Taking.{Taken, nothing_taken, taken, ended, after_ended}
use Rattle.definitions.specs.Engines.{Speaker}

pub data Hearing (F : Type 0) : Type 0 where
  -- the end, and what it took of a message that has not ended
  Goes_on : (end : End F) → (taken : Taken F) → Hearing F
  -- the session is over
  Over_at : (end : End F) → Hearing F
  -- a fault frame of this code came
  Peer_refused : (code : ℕ) → Hearing F
  -- this side refuses with this number
  Refused_for : (code : ℕ) → Hearing F

abbrev pub goes_unless : {F : Type 0} → Option ℕ → Hearing F → Hearing F
goes_unless (Some code) h = Refused_for code
goes_unless None h = h

-- after a message: the session goes on, or is over
abbrev pub stands_at : {F : Type 0} → End F → Hearing F
stands_at e = if is_over e.stage then Over_at e else Goes_on e (nothing_taken e)

abbrev pub ended_by : {F : Type 0} → End F → Taken F → Answer F → Hearing F
ended_by e t (Replies N) = stands_at (after_ended e t (Replies N))
ended_by e t Ends = stands_at (after_ended e t Ends)
ended_by e t (Refuses code) = Refused_for code

-- a part, the end of a message, or a fault frame
abbrev pub hear_now : {F : Type 0} → Summary F → End F → Taken F → Event F → Hearing F
hear_now S e t (Came p) = goes_unless (refusal (next t.place p)) (Goes_on e (taken S e t p))
hear_now S e t Ended = ended_by e t (ended t)
hear_now S e t (Failed code) = Peer_refused code

-- what comes after the end of the session, or after a refusal, is not heard
abbrev pub hear : {F : Type 0} → Summary F → Hearing F → Event F → Hearing F
hear S (Goes_on e t) event = hear_now S e t event
hear S (Over_at e) event = Over_at e
hear S (Peer_refused code) event = Peer_refused code
hear S (Refused_for code) event = Refused_for code

abbrev pub begins : {F : Type 0} → Speaker F → Hearing F
begins s = Goes_on s.start (nothing_taken s.start)

abbrev pub hears : {F : Type 0} → Summary F → Speaker F → List (Event F) → Hearing F
hears S s events = fold (hear S) (begins s) events

-- what the stream's standing says of an end that still hears
abbrev pub stopped_by : {F : Type 0} → Standing → Hearing F → Hearing F
stopped_by Before_hello h = h
stopped_by (In_message parts) h = h
stopped_by Meaning_over h = h
stopped_by (Faulted code) h = Refused_for code

-- only an end that still hears is stopped
abbrev pub stop_at : {F : Type 0} → Standing → Hearing F → Hearing F
stop_at to (Goes_on e t) = stopped_by to (Goes_on e t)
stop_at to (Over_at e) = Over_at e
stop_at to (Peer_refused code) = Peer_refused code
stop_at to (Refused_for code) = Refused_for code

abbrev pub heard_of : {F : Type 0} → Summary F → Speaker F → Fed F → Hearing F
heard_of S s fed = stop_at fed.to (hears S s fed.events)

abbrev pub hearing_in : {F : Type 0} → Summary F → Profile F → Speaker F → List ℕ → Hearing F
hearing_in S P s bytes = heard_of S s (feed P Before_hello bytes)

-- no more comes where the input is over: before the session's end that is a refusal
abbrev pub with_end : {F : Type 0} → Bool → Hearing F → Hearing F
with_end over (Goes_on e t) = if over then Refused_for truncated else Goes_on e t
with_end over (Over_at e) = Over_at e
with_end over (Peer_refused code) = Peer_refused code
with_end over (Refused_for code) = Refused_for code

abbrev pub hearing_to : {F : Type 0} → Summary F → Profile F → Speaker F → Bool → List ℕ → Hearing F
hearing_to S P s over bytes = with_end over (hearing_in S P s bytes)

abbrev pub first_fault : {F : Type 0} → Hearing F → Option ℕ
first_fault (Goes_on e t) = None
first_fault (Over_at e) = None
first_fault (Peer_refused code) = None
first_fault (Refused_for code) = Some code
