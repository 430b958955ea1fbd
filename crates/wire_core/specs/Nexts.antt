-- The next event of a stream, taken off a piece.
--     hello_due P standing               the hello, where it is due
--     hello_length standing              4 where it is due, and else 0
--     frame_end standing bytes           where the first frame ends, by its length, after the hello where it is due
--     taken_by result piece              what was taken of the piece
--     IsReach standing kept piece count  so many bytes of the piece are all, or reach to that end
--     IsFedAlone fed result             what was fed is the event, if there is one, and the feed then; or the fault
--     Refuses P old piece e             the fault of the kept bytes and the piece; or no memory was left for them
--     TakesNext P old piece result new   so many bytes of the piece are taken, and the event that they end, if they do
use Rattle.std.specs.Prelude.{◌≡◌, ℕ, ◌+◌, ◌-◌, ◌<◌, ◌≤◌, min, false, List, [], ◌∷◌, ◌++◌, length, take, drop}
use Rattle.std.specs.Prelude.{Option, Some, None, Result, Ok, Err, ⊤}
use Rattle.std.specs.Option.{option_to_list}
use Rattle.std.specs.Int.{w32, from_be_bytes}
use Rattle.definitions.specs.Wire.{Profile, frame, event_text}
use Rattle.definitions.specs.Streams.{Standing, Before_hello, In_message, Meaning_over, Faulted, Fed, feed, stays}
use Rattle.wire_core.specs.Events.{event_value, event_values}
use Rattle.wire_core.specs.Standings.{is_over}
use Rattle.wire_core.specs.Feeds.{StreamState, fed_into, fault_at}
use Rattle.wire_core.specs.Refused.{fault_number}
use Rattle.wire_core.specs.declared.event.Event as declared
use Rattle.wire_core.specs.declared.fault.DecodeError.{DecodeError}
use Rattle.wire_core.specs.declared.fault.DecodeError.TheVariants as errors

abbrev pub hello_due : {F : Type 0} → Profile F → Standing → List ℕ
hello_due P Before_hello = P.hello
hello_due P (In_message parts) = []
hello_due P Meaning_over = []
hello_due P (Faulted code) = []

abbrev pub hello_length : Standing → ℕ
hello_length Before_hello = 4
hello_length (In_message parts) = 0
hello_length Meaning_over = 0
hello_length (Faulted code) = 0

abbrev pub frame_end : Standing → List ℕ → ℕ
frame_end standing bytes = hello_length standing + 4 + from_be_bytes w32 (take 4 (drop (hello_length standing) bytes))

abbrev pub IsFedAlone : {F : Type 0} → Fed F → Result (Option (declared.Event F) × StreamState) DecodeError → Type 0
IsFedAlone fed (Ok (made, new)) = (fed ≡ fed_into (event_values (option_to_list made)) new)
    × (fault_at new.standing ≡ None)
IsFedAlone fed (Err (errors.Fault f)) = fed ≡ stays (Faulted (fault_number f)) []
IsFedAlone fed (Err errors.Memory) = ⊤

abbrev pub Refuses : {F : Type 0} → Profile F → StreamState → List ℕ → DecodeError → Type 0
Refuses P old piece (errors.Fault f) = feed P old.standing (old.kept ++ piece) ≡ stays (Faulted (fault_number f)) []
Refuses P old piece errors.Memory = is_over old.standing ≡ false

-- no event is whole yet, and all of the piece is read; or an event, whose frame the bytes spell up to the last that is
-- taken; or a fault; or memory ran out, where it was wanted, and nothing has changed
abbrev pub TakesNext : {F : Type 0} → Profile F → StreamState → List ℕ →
    Result (ℕ × Option (declared.Event F)) DecodeError → StreamState → Type 0
TakesNext P old piece (Ok (taken, None)) new =
    (taken ≡ length piece) × (feed P old.standing (old.kept ++ piece) ≡ fed_into [] new)
TakesNext P old piece (Ok (taken, Some e)) new = (0 < taken) × (taken ≤ length piece)
    × (old.kept ++ take taken piece ≡ hello_due P old.standing ++ frame (event_text P (event_value e)))
    × (feed P old.standing (old.kept ++ take taken piece) ≡ fed_into (event_value e ∷ []) new)
    × (new.kept ≡ [])
TakesNext P old piece (Err (errors.Fault f)) new =
    feed P old.standing (old.kept ++ piece) ≡ fed_into [] new
TakesNext P old piece (Err errors.Memory) new = (new ≡ old) × (is_over old.standing ≡ false)

-- what was taken of the piece: all of it after a fault
abbrev pub taken_by : {F : Type 0} → Result (ℕ × Option (declared.Event F)) DecodeError → List ℕ → List ℕ
taken_by (Ok x) piece = take x.0 piece
taken_by (Err e) piece = piece

-- all of the piece, or as far as the frame ends
abbrev pub IsReach : Standing → List ℕ → List ℕ → ℕ → Type 0
IsReach s kept piece count = (length (kept ++ piece) < hello_length s + 4 → count ≡ length piece)
    × (hello_length s + 4 ≤ length (kept ++ piece) →
    count ≡ min (length piece) (frame_end s (kept ++ piece) - length kept))
