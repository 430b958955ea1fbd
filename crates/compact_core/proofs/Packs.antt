-- Frames packed one after the other, as a loop does.
use Rattle.std.proofs.Common.{◌≡◌, ℕ, zero, suc, ◌+◌, ◌≤◌, ◌<◌, List, [], ◌∷◌, ◌++◌, Option, Some, None, Result, Ok}
use Rattle.std.proofs.Common.{Err}
use Rattle.std.proofs.Common.{refl, sym, ap, ◌∙◌, append_assoc, append-nil, arith, length}
use Rattle.definitions.specs.Wire.{Profile, Event, Stream}
use Rattle.definitions.specs.Compact.{come_to, unit_text}
use Rattle.definitions.specs.Reading.{event_at}
use Rattle.definitions.specs.Packing.{Packed, with_text, packed_by, pack_by}
use Rattle.compact_core.specs.Packing.{packed_state, NoFrame}

-- the text so far, and that of the frames that are still to be read, are all
abbrev pub GoesOn : {F : Type 0} → Profile F → Packed → List ℕ → Option (List ℕ) → List ℕ → Type 0
GoesOn P total text z bytes = (fuel : ℕ) × (length bytes ≤ fuel) × (total ≡ with_text text (pack_by P fuel z bytes))

pub frames_step : {F : Type 0} (P : Profile F) (total : Packed) (text new : List ℕ) (z next : Option (List ℕ))
    (bytes after : List ℕ) (e : Event F) → length after < length bytes →
    event_at P Stream 0 bytes ≡ Ok (Some (e, after)) → new ≡ text ++ unit_text P z e → next ≡ come_to z e →
    GoesOn P total text z bytes → GoesOn P total new next after
frames_step P total text new z next bytes after e less read is there (zero, few, so_far) = absurd (omega arith)
frames_step P total text new z next bytes after e less read is there (suc fuel, few, so_far) =
    let p : Packed = pack_by P fuel (come_to z e) after in (
      fuel,
      omega arith,
      so_far ∙ ap (λ r. with_text text (packed_by P r z bytes (pack_by P fuel))) read
          ∙ ap (λ (t : List ℕ). record { text = t; to = p.to; kept = p.kept })
          (sym (append_assoc text (unit_text P z e) p.text))
          ∙ (λ i. with_text (sym is i) (pack_by P fuel (sym there i) after)),
    )

none_packed : {F : Type 0} (P : Profile F) (r : Result (Option (Event F × List ℕ)) ℕ) (z : Option (List ℕ))
    (bytes : List ℕ) (more : Option (List ℕ) → List ℕ → Packed) → NoFrame r →
    packed_by P r z bytes more ≡ record { text = []; to = z; kept = bytes }
none_packed P (Ok (Some x)) z bytes more none = absurd none
none_packed P (Ok None) z bytes more none = refl
none_packed P (Err code) z bytes more none = refl

pub frames_end : {F : Type 0} (P : Profile F) (total : Packed) (text : List ℕ) (z : Option (List ℕ)) (bytes : List ℕ) →
    NoFrame (event_at P Stream 0 bytes) → GoesOn P total text z bytes →
    total ≡ record { text = text; to = z; kept = bytes }
frames_end P total text z bytes none (zero, few, so_far) =
    so_far ∙ (λ i. record { text = append-nil text i; to = z; kept = bytes })
frames_end P total text z bytes none (suc fuel, few, so_far) =
    so_far ∙ ap (with_text text) (none_packed P (event_at P Stream 0 bytes) z bytes (pack_by P fuel) none)
    ∙ (λ i. record { text = append-nil text i; to = z; kept = bytes })

pub frames_done : {F : Type 0} (P : Profile F) (old text : List ℕ) (p : Packed) (z : Option (List ℕ))
    (bytes left : List ℕ) → NoFrame (event_at P Stream 0 bytes) → left ≡ bytes →
    GoesOn P (with_text old p) text z bytes →
    (text ≡ old ++ p.text) × (packed_state p ≡ record { to = z; kept = left })
frames_done P old text p z bytes left none same so_far =
    let is = frames_end P (with_text old p) text z bytes none so_far in (
      sym (ap (λ (q : Packed). q.text) is),
      ap (λ (q : Packed). packed_state q) is ∙ (λ i. record { to = z; kept = sym same i }),
    )
