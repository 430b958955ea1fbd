-- What a reader of bytes returns, beside what reading on lists gives.
--     Stops stop read              nothing is read: the bytes are unfinished, or have this fault
--     GivesField, Gives, Fails     the same value, or nothing for the same reason, unless memory ran out
--     in_field e                   what e is of a field that has all come
--     field_bytes_from, range_from, with_room      steps of the readings
--     may_follow first left rest   bytes may stand where these are left of what stands before an item
use Rattle.std.specs.Prelude.{◌≡◌, List, ℕ, ◌-◌, Bool, ◌||◌, ◌&&◌, nat_lt, length, if◌then◌else◌, Option, Some, None}
use Rattle.std.specs.Prelude.{Result, Ok, Err, ⊤}
use Rattle.definitions.specs.Items.{Item, Range}
use Rattle.definitions.specs.Wire.{max_body}
use Rattle.definitions.specs.Refusals.{frame_length}
use Rattle.definitions.specs.CompactReading.{Reading, ◌>>=◌, gives, but_not, goes_above, bytes_from, number_from}
use Rattle.definitions.specs.CompactReading.{max_field, upper_from, items_from}
use Rattle.wire_core.specs.Refused.{fault_number}
use Rattle.wire_core.specs.declared.fault.WireFault.TheVariants as faults
use Rattle.compact_core.specs.declared.stop.Stop.{Stop}
use Rattle.compact_core.specs.declared.stop.Stop.TheVariants as stops
use Rattle.compact_core.specs.declared.stop.ReadError.{ReadError}
use Rattle.compact_core.specs.declared.stop.ReadError.TheVariants as errors

abbrev pub Stops : {Y : Type 0} → Stop → Reading Y → Type 0
Stops stops.Unfinished read = read ≡ Ok None
Stops (stops.Fault f) read = read ≡ Err (fault_number f)

abbrev pub GivesField : {X Y : Type 0} → (X → Y × List ℕ) → Result X Stop → Reading Y → Type 0
GivesField view (Ok x) read = read ≡ Ok (Some (view x))
GivesField view (Err stop) read = Stops stop read

abbrev pub Fails : {Y : Type 0} → ReadError → Reading Y → Type 0
Fails errors.Memory read = ⊤
Fails (errors.Stop stop) read = Stops stop read

abbrev pub Gives : {X Y : Type 0} → (X → Y × List ℕ) → Result X ReadError → Reading Y → Type 0
Gives view (Ok x) read = read ≡ Ok (Some (view x))
Gives view (Err e) read = Fails e read

abbrev pub may_follow : Bool → List ℕ → List ℕ → Bool
may_follow first left rest = (first || nat_lt 0 (length rest)) && goes_above left rest

-- the end of a field that has all come is a fault
abbrev pub in_field : ReadError → ReadError
in_field (errors.Stop stops.Unfinished) = errors.Stop (stops.Fault faults.FrameLength)
in_field (errors.Stop (stops.Fault f)) = errors.Stop (stops.Fault f)
in_field errors.Memory = errors.Memory

-- the bytes of a field
abbrev pub field_bytes_from : List ℕ → Reading (List ℕ)
field_bytes_from bytes = do
  n ← number_from bytes
  m ← but_not (nat_lt max_field n.0) frame_length n
  bytes_from m.0 m.1

-- the range of a part that begins at z: what follows its head
abbrev pub range_from : List ℕ → ℕ → List ℕ → Reading Range
range_from z head bytes = do
  y ← upper_from z head bytes
  gives (record { lower = z; upper = y.0 }) y.1

-- the items of a part whose body has so many bytes without them
abbrev pub with_room : Range → ℕ → List ℕ → Reading (List Item)
with_room X n bytes = if nat_lt max_body n then Err frame_length else items_from X (max_body - n) bytes
