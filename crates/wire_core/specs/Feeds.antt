-- A feed, and what a call of it answers.
--     StreamState                    where a stream stands, and the bytes that are kept of it
--     fed_into events state          what is fed: events, and the state after them
--     Holds P state bytes events     all that came so far: its bytes, from the hello on, and its events
--     events_since old new           the events that came after the old ones
--     Continues P old piece new      what a state holds, the next one holds with the piece and its events after it
--     fault_at standing              the fault that a stream has, if any
--     refusal_in, fault_in           the number of a refusal
--     UnlessMemory, IfMemory         what holds unless memory ran out, and where it did
use Rattle.std.specs.Prelude.{◌≡◌, ℕ, List, ◌++◌, length, drop, ⊤}
use Rattle.std.specs.Prelude.{Option, Some, None, Result, Ok, Err}
use Rattle.definitions.specs.Items.{IsBytes}
use Rattle.definitions.specs.Wire.{Profile, Event}
use Rattle.definitions.specs.Streams.{Standing, Before_hello, In_message, Meaning_over, Faulted, Fed, feed}
use Rattle.wire_core.specs.Events.{event_values}
use Rattle.wire_core.specs.Refused.{fault_number, decode_error_number}
use Rattle.wire_core.specs.declared.event.Event as declared
use Rattle.wire_core.specs.declared.fault.WireFault.{WireFault}
use Rattle.wire_core.specs.declared.fault.DecodeError.{DecodeError}
use Rattle.wire_core.specs.declared.fault.DecodeError.TheVariants as errors

pub record StreamState : Type 0 where
  pub standing : Standing
  pub kept : List ℕ

abbrev pub fed_into : {F : Type 0} → List (Event F) → StreamState → Fed F
fed_into events state = record { events = events; to = state.standing; kept = state.kept }

-- the bytes of a stream so far, from the hello on, are these events and then this state
abbrev pub Holds : {F : Type 0} → Profile F → StreamState → List ℕ → List (Event F) → Type 0
Holds P state bytes events = feed P Before_hello bytes ≡ fed_into events state

abbrev pub events_since : {F : Type 0} → List (declared.Event F) → List (declared.Event F) → List (Event F)
events_since old new = event_values (drop (length old) new)

-- whatever the stream's bytes and events were so far, they go on with the piece and with what it is fed to
abbrev pub Continues : {F : Type 0} → Profile F → StreamState → List ℕ → StreamState → Type 0
Continues {F} P old piece new = (bytes : List ℕ) (events : List (Event F)) → IsBytes bytes → Holds P old bytes events →
    Holds P new (bytes ++ piece) (events ++ (feed P old.standing (old.kept ++ piece)).events)

abbrev pub fault_at : Standing → Option ℕ
fault_at Before_hello = None
fault_at (In_message parts) = None
fault_at Meaning_over = None
fault_at (Faulted code) = Some code

abbrev pub fault_in : {X : Type 0} → Result X WireFault → Option ℕ
fault_in (Ok x) = None
fault_in (Err f) = Some (fault_number f)

abbrev pub refusal_in : {X : Type 0} → Result X DecodeError → Option ℕ
refusal_in (Ok x) = None
refusal_in (Err e) = Some (decode_error_number e)

abbrev pub UnlessMemory : {X : Type 0} → Result X DecodeError → Type 0 → Type 0
UnlessMemory (Ok x) A = A
UnlessMemory (Err (errors.Fault f)) A = A
UnlessMemory (Err errors.Memory) A = ⊤

abbrev pub IfMemory : {X : Type 0} → Result X DecodeError → Type 0 → Type 0
IfMemory (Ok x) A = ⊤
IfMemory (Err (errors.Fault f)) A = ⊤
IfMemory (Err errors.Memory) A = A
