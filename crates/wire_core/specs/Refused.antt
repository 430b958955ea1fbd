-- What a reader of bytes returns, beside what reading on lists gives.
--     fault_number f             the number of a fault
--     decode_error_number e      the number of a refusal, 90 where memory ran out
--     GivesField, Gives, Fails   the same value or the same fault, unless memory ran out
--     IfFault                    something of the fault's number
use Rattle.std.specs.Prelude.{◌≡◌, ℕ, Result, Ok, Err, ⊤}
use Rattle.wire_core.specs.declared.fault.WireFault.{WireFault}
use Rattle.wire_core.specs.declared.fault.WireFault.TheVariants.{BadHello, FrameLength, Truncated, BadKind, BadBound}
use Rattle.wire_core.specs.declared.fault.WireFault.TheVariants.{EmptyRange, ItemLength, ItemOrder, ItemOutside}
use Rattle.wire_core.specs.declared.fault.WireFault.TheVariants.{MarkPadding, Trailing, TooManyParts}
use Rattle.wire_core.specs.declared.fault.DecodeError.{DecodeError}
use Rattle.wire_core.specs.declared.fault.DecodeError.TheVariants as errors
use Rattle.definitions.specs.Refusals as codes

abbrev pub fault_number : WireFault → ℕ
fault_number BadHello = codes.bad_hello
fault_number FrameLength = codes.frame_length
fault_number Truncated = codes.truncated
fault_number BadKind = codes.bad_kind
fault_number BadBound = codes.bad_bound
fault_number EmptyRange = codes.empty_range
fault_number ItemLength = codes.item_length
fault_number ItemOrder = codes.item_order
fault_number ItemOutside = codes.item_outside
fault_number MarkPadding = codes.mark_padding
fault_number Trailing = codes.trailing
fault_number TooManyParts = codes.too_many_parts

abbrev pub decode_error_number : DecodeError → ℕ
decode_error_number (errors.Fault f) = fault_number f
decode_error_number errors.Memory = codes.no_memory

abbrev pub GivesField : {X Y : Type 0} → (X → Y) → Result X WireFault → Result Y ℕ → Type 0
GivesField view (Ok x) read = read ≡ Ok (view x)
GivesField view (Err f) read = read ≡ Err (fault_number f)

abbrev pub Fails : {Y : Type 0} → DecodeError → Result Y ℕ → Type 0
Fails errors.Memory read = ⊤
Fails (errors.Fault f) read = read ≡ Err (fault_number f)

abbrev pub Gives : {X Y : Type 0} → (X → Y) → Result X DecodeError → Result Y ℕ → Type 0
Gives view (Ok x) read = read ≡ Ok (view x)
Gives view (Err e) read = Fails e read

-- a number of a fault, where memory did not run out
abbrev pub IfFault : {X : Type 0} → Result X DecodeError → (ℕ → Type 0) → Type 0
IfFault (Ok x) P = ⊤
IfFault (Err errors.Memory) P = ⊤
IfFault (Err (errors.Fault f)) P = P (fault_number f)
