-- Where a stream stands, as the definitions have it, and reading on from there.
--     standing_of standing           as the definitions have it
--     is_over standing               whether what follows counts no more
--     stands_after parts e          after an event that came after so many parts of its message
--     put_after before fed          events that came before, and what is fed then
--     starts_at result bytes more   what is fed after the hello: frames, or nothing
--     fed_as events standing bytes  events that were given, where the stream stands then, and what is kept
--     IsRead fed result left        the event that was read, if there is one, or the fault; and what is left
use Rattle.std.specs.Prelude.{◌≡◌, ℕ, ◌+◌, Bool, true, false, List, [], ◌++◌, ⊤, Option, Some, None, Result, Ok, Err}
use Rattle.std.specs.Option.{option_to_list}
use Rattle.definitions.specs.Wire.{Event, Came, Ended, Failed}
use Rattle.definitions.specs.Streams as streams
use Rattle.definitions.specs.Streams.{Fed, stays}
use Rattle.wire_core.specs.Refused.{fault_number}
use Rattle.wire_core.specs.Events.{event_values}
use Rattle.wire_core.specs.declared.event.Event as declared
use Rattle.wire_core.specs.declared.standing.Standing.{Standing}
use Rattle.wire_core.specs.declared.standing.Standing.TheVariants as standings
use Rattle.wire_core.specs.declared.fault.WireFault.{WireFault}
use Rattle.wire_core.specs.declared.fault.DecodeError.{DecodeError}
use Rattle.wire_core.specs.declared.fault.DecodeError.TheVariants as errors

abbrev pub standing_of : Standing → streams.Standing
standing_of standings.BeforeHello = streams.Before_hello
standing_of (standings.InMessage parts) = streams.In_message parts
standing_of standings.MeaningOver = streams.Meaning_over
standing_of (standings.Faulted f) = streams.Faulted (fault_number f)

abbrev pub is_over : streams.Standing → Bool
is_over streams.Before_hello = false
is_over (streams.In_message parts) = false
is_over streams.Meaning_over = true
is_over (streams.Faulted code) = true

abbrev pub stands_after : {F : Type 0} → ℕ → Event F → streams.Standing
stands_after parts (Came p) = streams.In_message (parts + 1)
stands_after parts Ended = streams.In_message 0
stands_after parts (Failed code) = streams.Meaning_over

abbrev pub put_after : {F : Type 0} → List (Event F) → Fed F → Fed F
put_after before fed = record { events = before ++ fed.events; to = fed.to; kept = fed.kept }

abbrev pub starts_at : {F : Type 0} → Result (Option ℕ) WireFault → List ℕ → (ℕ → List ℕ → Fed F) → Fed F
starts_at (Ok (Some parts)) bytes more = more parts bytes
starts_at (Ok None) bytes more = stays streams.Before_hello bytes
starts_at (Err f) bytes more = stays (streams.Faulted (fault_number f)) []

abbrev pub fed_as : {F : Type 0} → List (declared.Event F) → Standing → List ℕ → Fed F
fed_as events standing bytes = record { events = event_values events; to = standing_of standing; kept = bytes }

abbrev pub IsRead : {F : Type 0} → Fed F → Result (Standing × Option (declared.Event F)) DecodeError → List ℕ → Type 0
IsRead fed (Ok (to, made)) left = fed ≡ fed_as (option_to_list made) to left
IsRead fed (Err (errors.Fault f)) left = fed ≡ stays (streams.Faulted (fault_number f)) []
IsRead fed (Err errors.Memory) left = ⊤
