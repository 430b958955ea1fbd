-- Between the compact spelling and frames, both ways.
--     Unpacked F, unpack P z bytes     the units that have come, where they come to, and what is kept of the next one
--     faulty_text code                 frames that are refused with this number
--     frames_of P z bytes              the frames that compact bytes mean
--     stream_of P bytes                a hello, and the frames that the bytes after it mean
--     Packed, pack P z frames          whole frames in the compact spelling, and what is kept of the next one
use Rattle.std.specs.Prelude.{ℕ, zero, suc, ◌==◌, List, [], ◌∷◌, ◌++◌, length, take, drop, flat_map, Option, Some, None}
use Rattle.std.specs.Prelude.{Result, Ok, Err, if◌then◌else◌}
use Rattle.definitions.specs.Wire.{Profile, frame, count_text, Event, event_text, Stream}
use Rattle.definitions.specs.Reading.{event_at}
use Rattle.definitions.specs.Compact.{unit_text, come_to}
use Rattle.definitions.specs.CompactReading.{unit_at}

-- ---- reading

pub record Unpacked (F : Type 0) : Type 0 where
  pub events : List (Event F)
  pub to : Option (List ℕ)
  pub kept : List ℕ
  pub fault : Option ℕ

abbrev pub unpacked_stays : {F : Type 0} → Option (List ℕ) → List ℕ → Option ℕ → Unpacked F
unpacked_stays z kept fault = record { events = []; to = z; kept = kept; fault = fault }

abbrev pub with_unit : {F : Type 0} → Event F → Unpacked F → Unpacked F
with_unit e u = record { events = e ∷ u.events; to = u.to; kept = u.kept; fault = u.fault }

abbrev pub unpacked_by : {F : Type 0} → Result (Option (Event F × List ℕ)) ℕ → Option (List ℕ) → List ℕ →
    (Option (List ℕ) → List ℕ → Unpacked F) → Unpacked F
unpacked_by (Err code) z bytes more = unpacked_stays z [] (Some code)
unpacked_by (Ok None) z bytes more = unpacked_stays z bytes None
unpacked_by (Ok (Some e)) z bytes more = with_unit e.0 (more (come_to z e.0) e.1)

-- fuel is at least the number of units: the number of bytes is enough
abbrev pub unpack_by : {F : Type 0} → Profile F → ℕ → Option (List ℕ) → List ℕ → Unpacked F
unpack_by P zero z bytes = unpacked_stays z bytes None
unpack_by P (suc fuel) z bytes = unpacked_by (unit_at P z bytes) z bytes (unpack_by P fuel)

abbrev pub unpack : {F : Type 0} → Profile F → Option (List ℕ) → List ℕ → Unpacked F
unpack P z bytes = unpack_by P (length bytes) z bytes

-- the range of all items
abbrev everything : List ℕ
everything = 0 ∷ 0xFF ∷ []

-- a body that is refused with this number: no kind; a Sum whose lower bound is too long, or not below the upper; a List
-- of an item of no bytes, of one item twice, of an item that is outside; an Answer with an unused mark bit set
abbrev pub faulty_body : ℕ → List ℕ
faulty_body code =
    if code == 4 then 0 ∷ []
    else if code == 5 then 1 ∷ 65 ∷ []
    else if code == 6 then 1 ∷ 1 ∷ 0 ∷ 1 ∷ 0 ∷ []
    else if code == 7 then 2 ∷ everything ++ (count_text 1 ++ 0 ∷ [])
    else if code == 8 then 2 ∷ everything ++ (count_text 2 ++ 1 ∷ 0 ∷ 1 ∷ 0 ∷ [])
    else if code == 9 then 2 ∷ 0 ∷ 1 ∷ 0 ∷ count_text 1 ++ 1 ∷ 0 ∷ []
    else if code == 10 then 3 ∷ everything ++ (count_text 1 ++ 2 ∷ count_text 0)
    else []

abbrev pub faulty_text : ℕ → List ℕ
faulty_text code = frame (faulty_body code)

-- each frame begins with 0; where part of a unit has come, so has that byte
abbrev pub begun_text : List ℕ → List ℕ
begun_text [] = []
begun_text (b ∷ kept) = 0 ∷ []

abbrev pub after_units : Option ℕ → List ℕ → List ℕ
after_units None kept = begun_text kept
after_units (Some code) kept = faulty_text code

abbrev pub event_frame : {F : Type 0} → Profile F → Event F → List ℕ
event_frame P e = frame (event_text P e)

abbrev pub frames_in : {F : Type 0} → Profile F → Unpacked F → List ℕ
frames_in P u = flat_map (event_frame P) u.events ++ after_units u.fault u.kept

abbrev pub frames_of : {F : Type 0} → Profile F → Option (List ℕ) → List ℕ → List ℕ
frames_of P z bytes = frames_in P (unpack P z bytes)

-- the bytes that a session reads: the hello passes unchanged
abbrev pub stream_of : {F : Type 0} → Profile F → List ℕ → List ℕ
stream_of P bytes = take 4 bytes ++ frames_of P (Some []) (drop 4 bytes)

-- ---- writing

pub record Packed : Type 0 where
  pub text : List ℕ
  pub to : Option (List ℕ)
  pub kept : List ℕ

abbrev pub with_text : List ℕ → Packed → Packed
with_text text p = record { text = text ++ p.text; to = p.to; kept = p.kept }

abbrev pub packed_by : {F : Type 0} → Profile F → Result (Option (Event F × List ℕ)) ℕ → Option (List ℕ) → List ℕ →
    (Option (List ℕ) → List ℕ → Packed) → Packed
packed_by P (Err code) z frames more = record { text = []; to = z; kept = frames }
packed_by P (Ok None) z frames more = record { text = []; to = z; kept = frames }
packed_by P (Ok (Some e)) z frames more = with_text (unit_text P z e.0) (more (come_to z e.0) e.1)

abbrev pub pack_by : {F : Type 0} → Profile F → ℕ → Option (List ℕ) → List ℕ → Packed
pack_by P zero z frames = record { text = []; to = z; kept = frames }
pack_by P (suc fuel) z frames = packed_by P (event_at P Stream 0 frames) z frames (pack_by P fuel)

abbrev pub pack : {F : Type 0} → Profile F → Option (List ℕ) → List ℕ → Packed
pack P z frames = pack_by P (length frames) z frames
