-- What an unpacker has read, and what a call of it appends.
--     UnpackerState                   the bound come to, what is kept of the next unit, and the fault, if one was found
--     stands u                        where the units that have come leave it
--     units_frames P es               the frames of units
--     Unpacks P u old new to left result      the units' frames are appended, and it stands so; unless memory ran out
--     was_begun kept                  1 where a byte was said of a unit that had begun, else 0
--     frames_after P old piece, state_after P old piece       what a piece appends, and the state after it
use Rattle.std.specs.Prelude.{◌≡◌, ℕ, List, [], ◌∷◌, ◌++◌, drop, flat_map, Option, Some, None, Result, Ok, Err, ⊤}
use Rattle.definitions.specs.Wire.{Profile, Event}
use Rattle.definitions.specs.Packing.{Unpacked, unpack, event_frame, frames_of}
use Rattle.wire_core.specs.Refused.{fault_number}
use Rattle.wire_core.specs.declared.fault.DecodeError.{DecodeError}
use Rattle.wire_core.specs.declared.fault.DecodeError.TheVariants as errors

pub record UnpackerState : Type 0 where
  pub to : Option (List ℕ)
  pub kept : List ℕ
  pub fault : Option ℕ

abbrev pub stands : {F : Type 0} → Unpacked F → UnpackerState
stands u = record { to = u.to; kept = u.kept; fault = u.fault }

abbrev pub units_frames : {F : Type 0} → Profile F → List (Event F) → List ℕ
units_frames P es = flat_map (event_frame P) es

abbrev pub Unpacks : {F : Type 0} → Profile F → Unpacked F → List ℕ → List ℕ → Option (List ℕ) → List ℕ →
    Result (Unit {0}) DecodeError → Type 0
Unpacks P u old new to left (Ok done) =
    (new ≡ old ++ units_frames P u.events) × (stands u ≡ record { to = to; kept = left; fault = None })
Unpacks P u old new to left (Err (errors.Fault f)) =
    (new ≡ old ++ units_frames P u.events) × (stands u ≡ record { to = to; kept = []; fault = Some (fault_number f) })
Unpacks P u old new to left (Err errors.Memory) = ⊤

abbrev pub was_begun : List ℕ → ℕ
was_begun [] = 0
was_begun (b ∷ kept) = 1

-- nothing after a fault
abbrev pub frames_anew : {F : Type 0} → Profile F → Option ℕ → Option (List ℕ) → List ℕ → List ℕ → List ℕ
frames_anew P (Some code) to kept piece = []
frames_anew P None to kept piece = drop (was_begun kept) (frames_of P to (kept ++ piece))

abbrev pub frames_after : {F : Type 0} → Profile F → UnpackerState → List ℕ → List ℕ
frames_after P old piece = frames_anew P old.fault old.to old.kept piece

abbrev pub state_anew : {F : Type 0} → Profile F → Option ℕ → Option (List ℕ) → List ℕ → List ℕ → UnpackerState
state_anew P (Some code) to kept piece = record { to = to; kept = kept; fault = Some code }
state_anew P None to kept piece = stands (unpack P to (kept ++ piece))

abbrev pub state_after : {F : Type 0} → Profile F → UnpackerState → List ℕ → UnpackerState
state_after P old piece = state_anew P old.fault old.to old.kept piece
