-- Units read one after the other, as a loop does.
use Rattle.std.proofs.Common.{◌≡◌, ℕ, zero, suc, ◌+◌, ◌≤◌, ◌<◌, List, [], ◌∷◌, ◌++◌, Option, Some, None, Result, Ok}
use Rattle.std.proofs.Common.{Err}
use Rattle.std.proofs.Common.{refl, sym, ap, ◌∙◌, append_assoc, append-nil, arith, length}
use Rattle.definitions.specs.Wire.{Profile, Event}
use Rattle.definitions.specs.Compact.{come_to}
use Rattle.definitions.specs.CompactReading.{gives, unit_at}
use Rattle.definitions.specs.Packing.{Unpacked, with_unit, unpacked_by, unpack_by, unpacked_stays, event_frame}
use Rattle.wire_core.specs.Refused.{fault_number, Fails}
use Rattle.wire_core.specs.declared.fault.DecodeError.{DecodeError}
use Rattle.wire_core.specs.declared.fault.DecodeError.TheVariants as errors
use Rattle.compact_core.specs.Unpacking.{UnpackerState, stands, units_frames, Unpacks}

-- frames that were written, and where the units leave it
pub record Told : Type 0 where
  pub text : List ℕ
  pub state : UnpackerState

abbrev pub told : {F : Type 0} → Profile F → List ℕ → Unpacked F → Told
told P text u = record { text = text ++ units_frames P u.events; state = stands u }

abbrev pub tells : List ℕ → Option (List ℕ) → List ℕ → Option ℕ → Told
tells text to kept fault = record { text = text; state = record { to = to; kept = kept; fault = fault } }

-- the frames so far, and those of the units that are still to be read, are all
abbrev pub GoesOn : {F : Type 0} → Profile F → Told → List ℕ → Option (List ℕ) → List ℕ → Type 0
GoesOn P total text z bytes = (fuel : ℕ) × (length bytes ≤ fuel) × (total ≡ told P text (unpack_by P fuel z bytes))

told_with : {F : Type 0} (P : Profile F) (text : List ℕ) (e : Event F) (u : Unpacked F) →
    told P text (with_unit e u) ≡ told P (text ++ event_frame P e) u
told_with P text e u =
    ap (λ (t : List ℕ). record { text = t; state = stands u })
    (sym (append_assoc text (event_frame P e) (units_frames P u.events)))

pub units_step : {F : Type 0} (P : Profile F) (total : Told) (text new : List ℕ) (z next : Option (List ℕ))
    (bytes after : List ℕ) (e : Event F) → length after < length bytes → unit_at P z bytes ≡ gives e after →
    new ≡ text ++ event_frame P e → next ≡ come_to z e → GoesOn P total text z bytes → GoesOn P total new next after
units_step P total text new z next bytes after e less read is there (zero, few, so_far) = absurd (omega arith)
units_step {F} P total text new z next bytes after e less read is there (suc fuel, few, so_far) =
    let u : Unpacked F = unpack_by P fuel (come_to z e) after in
    let one : unpack_by P (suc fuel) z bytes ≡ with_unit e u =
    ap (λ r. unpacked_by r z bytes (unpack_by P fuel)) read in (
      fuel,
      omega arith,
      so_far ∙ ap (told P text) one ∙ told_with P text e u
          ∙ (λ i. told P (sym is i) (unpack_by P fuel (sym there i) after)),
    )

told_none : {F : Type 0} (P : Profile F) (text : List ℕ) (z : Option (List ℕ)) (kept : List ℕ) (fault : Option ℕ) →
    told P text (unpacked_stays z kept fault) ≡ tells text z kept fault
told_none P text z kept fault = ap (λ (t : List ℕ). tells t z kept fault) (append-nil text)

pub units_end : {F : Type 0} (P : Profile F) (total : Told) (text : List ℕ) (z : Option (List ℕ)) (bytes : List ℕ) →
    unit_at P z bytes ≡ Ok None → GoesOn P total text z bytes → total ≡ tells text z bytes None
units_end P total text z bytes read (zero, few, so_far) = so_far ∙ told_none P text z bytes None
units_end P total text z bytes read (suc fuel, few, so_far) =
    so_far ∙ ap (λ r. told P text (unpacked_by r z bytes (unpack_by P fuel))) read ∙ told_none P text z bytes None

pub units_stop : {F : Type 0} (P : Profile F) (total : Told) (text : List ℕ) (z : Option (List ℕ)) (bytes : List ℕ)
    (code : ℕ) → unit_at P z bytes ≡ Err code → GoesOn P total text z bytes → total ≡ tells text z [] (Some code)
units_stop P total text z [] code read (zero, few, so_far) = absurd cc
units_stop P total text z (b ∷ bytes) code read (zero, few, so_far) = absurd (omega arith)
units_stop P total text z bytes code read (suc fuel, few, so_far) =
    so_far ∙ ap (λ r. told P text (unpacked_by r z bytes (unpack_by P fuel))) read ∙ told_none P text z [] (Some code)

pub told_parts : {F : Type 0} (P : Profile F) (old new : List ℕ) (u : Unpacked F) (to : Option (List ℕ)) (kept : List ℕ)
    (fault : Option ℕ) → told P old u ≡ tells new to kept fault →
    (new ≡ old ++ units_frames P u.events) × (stands u ≡ record { to = to; kept = kept; fault = fault })
told_parts P old new u to kept fault is = (sym (ap (λ (t : Told). t.text) is), ap (λ (t : Told). t.state) is)

pub units_fail : {F : Type 0} (P : Profile F) (old text : List ℕ) (u : Unpacked F) (z : Option (List ℕ))
    (bytes left : List ℕ) (e : DecodeError) → Fails e (unit_at P z bytes) → GoesOn P (told P old u) text z bytes →
    Unpacks P u old text z left (Err e)
units_fail P old text u z bytes left errors.Memory read so_far = tt
units_fail P old text u z bytes left (errors.Fault f) read so_far =
    told_parts P old text u z [] (Some (fault_number f))
    (units_stop P (told P old u) text z bytes (fault_number f) read so_far)

pub units_done : {F : Type 0} (P : Profile F) (old text : List ℕ) (u : Unpacked F) (z : Option (List ℕ))
    (bytes left : List ℕ) → unit_at P z bytes ≡ Ok None → left ≡ bytes → GoesOn P (told P old u) text z bytes →
    (text ≡ old ++ units_frames P u.events) × (stands u ≡ record { to = z; kept = left; fault = None })
units_done P old text u z bytes left read same so_far =
    told_parts P old text u z left None
    (units_end P (told P old u) text z bytes read so_far ∙ ap (λ (t : List ℕ). tells text z t None) (sym same))
