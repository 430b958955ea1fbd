-- What a session hears of the frames that compact bytes mean.
-- The frames of units are read as their events, up to one part too many or a fault frame. After them stands nothing, or
-- the byte 0, with which a frame begins and none ends, or frames that are refused with the number of the fault that was
-- found. So the bytes mean these events in the sense of a stream (`MeansFrames`), and a stream is fed just that.
-- docs/LAWS.md: The compact spelling.
use Rattle.std.proofs.Common.{◌≡◌, ℕ, zero, suc, ◌+◌, ◌-◌, ◌≤◌, List, [], ◌∷◌, ◌++◌, length, Option, Some, None, Err}
use Rattle.std.proofs.Common.{refl, sym, ap, subst, ◌∙◌, arith, rules, inl, inr, append_assoc}
use Rattle.std.specs.Prelude.{nat_lt, flat_map, ⊤}
use Rattle.definitions.proofs.Words.{IsBytes, Profile, IsProfile, Event, Came, Ended, Failed, event_in, event_at}
use Rattle.definitions.proofs.Words.{Stream, IsBodyLength, IsPartial, FaultyFrame, max_parts, Before_hello, In_message}
use Rattle.definitions.proofs.Words.{Fed, feed, MeansFrames, too_many_parts, range_of}
use Rattle.definitions.proofs.Lemmas.{ltb-true, ltb-false, append-nil, take_at, drop_at}
use Rattle.definitions.specs.Compact.{unit_text, units_text, AreUnits}
use Rattle.definitions.specs.CompactReading.{unit_at}
use Rattle.definitions.specs.Packing.{Unpacked, unpack, faulty_body, faulty_text, begun_text, after_units, event_frame}
use Rattle.definitions.specs.Packing.{frames_of, stream_of}
use Rattle.laws.specs.Codec.{IsFed}
use Rattle.laws.specs.Compact.{IsFrom, fed_units}
use Rattle.laws.proofs.Fields.{IsBytes-back, bad_of}
use Rattle.laws.proofs.Messages.{event_any, event_at_told}
use Rattle.laws.proofs.Streams.{feed_only}
use Rattle.laws.proofs.CompactFields.{by_if}
use Rattle.laws.proofs.CompactFrames.{UnpackedGood, unpack_good}
use Rattle.laws.proofs.CompactFaults.{IsUnitFault, unit_faults}

-- ==== Each fault has its number

abbrev Refuses : {F : Type 0} → Profile F → ℕ → Type 0
Refuses P code = (parts : ℕ) (more : List ℕ) → FaultyFrame P Stream parts (faulty_text code ++ more) code

faulty_by_body : {F : Type 0} (P : Profile F) → IsProfile P → (code : ℕ) → IsBytes (faulty_body code) →
    IsBodyLength (length (faulty_body code)) → event_in P Stream (faulty_body code) ≡ Err code → Refuses P code
faulty_by_body P real code fits short is parts more =
    inr (inl (faulty_body code, more, short, refl, bad_of (event_any P real Stream (faulty_body code)) fits code is))

refuses : {F : Type 0} (P : Profile F) → IsProfile P → (k : ℕ) → k ≤ 6 → Refuses P (4 + k)
refuses P real zero le = faulty_by_body P real 4 (search rules) (omega arith, omega arith) refl
refuses P real (suc zero) le = faulty_by_body P real 5 (search rules) (omega arith, omega arith) refl
refuses P real (suc (suc zero)) le = faulty_by_body P real 6 (search rules) (omega arith, omega arith) refl
refuses P real (suc (suc (suc zero))) le = faulty_by_body P real 7 (search rules) (omega arith, omega arith) refl
refuses P real (suc (suc (suc (suc zero)))) le = faulty_by_body P real 8 (search rules) (omega arith, omega arith) refl
refuses P real (suc (suc (suc (suc (suc zero))))) le =
    faulty_by_body P real 9 (search rules) (omega arith, omega arith) refl
refuses P real (suc (suc (suc (suc (suc (suc zero)))))) le =
    faulty_by_body P real 10 (search rules) (omega arith, omega arith) refl
refuses P real (suc (suc (suc (suc (suc (suc (suc k))))))) le = absurd (omega arith)

refuses_two : {F : Type 0} (P : Profile F) → Refuses P 2
refuses_two P parts more = inl (0, more, inl refl, refl, refl)

pub faulty_frame : {F : Type 0} (P : Profile F) → IsProfile P → (code : ℕ) → IsUnitFault code → Refuses P code
faulty_frame P real code (inl two) = subst (Refuses P) (sym two) (refuses_two P)
faulty_frame P real code (inr (low, high)) =
    let same : 4 + (code - 4) ≡ code = omega arith in
    subst (Refuses P) same (refuses P real (code - 4) (omega arith))

pub faulty_refused : {F : Type 0} (P : Profile F) → IsProfile P → (z : Option (List ℕ)) (bytes : List ℕ) (code : ℕ) →
    unit_at P z bytes ≡ Err code → (parts : ℕ) (more : List ℕ) →
    event_at P Stream parts (faulty_text code ++ more) ≡ Err code
faulty_refused P real z bytes code is parts more =
    (event_at_told P real Stream parts (faulty_text code ++ more)).bad code
    (faulty_frame P real code ((unit_faults P z).each bytes code is) parts more)

-- ==== What is heard

begun_partial : (kept : List ℕ) → IsPartial (begun_text kept)
begun_partial [] = inl (omega arith)
begun_partial (b ∷ kept) = inl (omega arith)

abbrev pub FaultIsOne : Option ℕ → Type 0
FaultIsOne None = ⊤
FaultIsOne (Some code) = IsUnitFault code

abbrev MeansFed : {F : Type 0} → Profile F → ℕ → List ℕ → Fed F → Type 0
MeansFed P parts bytes fed = MeansFrames P parts fed.events bytes fed.to fed.kept

units_heard : {F : Type 0} (P : Profile F) → IsProfile P → (z : Option (List ℕ)) (es : List (Event F)) (parts : ℕ)
    (fault : Option ℕ) (kept left : List ℕ) → AreUnits P z es → IsBytes (units_text P z es ++ left) →
    FaultIsOne fault →
    MeansFed P parts (flat_map (event_frame P) es ++ after_units fault kept) (fed_units parts es fault kept)
units_heard P real z [] parts None kept left units fits one = inl (begun_partial kept, refl, refl)
units_heard P real z [] parts (Some code) kept left units fits one = inr (
  code,
  subst (λ t. FaultyFrame P Stream parts t code) (append-nil (faulty_text code))
      (faulty_frame P real code one parts []),
  refl,
  refl,
)
units_heard {F} P real z (Came p ∷ es) parts fault kept left units fits one =
    let own : List ℕ = event_frame P (Came p) in
    let rest : List ℕ = flat_map (event_frame P) es ++ after_units fault kept in
    let is : (own ++ flat_map (event_frame P) es) ++ after_units fault kept ≡ own ++ rest =
    append_assoc own (flat_map (event_frame P) es) (after_units fault kept) in
    let right = IsBytes-back (unit_text P z (Came p)) (units_text P (range_of p).upper es ++ left)
    (subst IsBytes (append_assoc (unit_text P z (Came p)) (units_text P (range_of p).upper es) left) fits) in
    by_if (MeansFed P parts ((own ++ flat_map (event_frame P) es) ++ after_units fault kept))
    (nat_lt parts max_parts) _ _
    (λ h. (
      units.0.0,
      ltb-true _ _ h,
      rest,
      is,
      units_heard P real (range_of p).upper es (parts + 1) fault kept left units.1 right one,
    ))
    (λ h. inr (too_many_parts, inr (inr (p, rest, units.0.0, is, (ltb-false _ _ h, refl))), refl, refl))
units_heard {F} P real z (Ended ∷ es) parts fault kept left units fits one =
    let rest : List ℕ = flat_map (event_frame P) es ++ after_units fault kept in (
      rest,
      append_assoc (event_frame P Ended) (flat_map (event_frame P) es) (after_units fault kept),
      units_heard P real (Some []) es 0 fault kept left units.1 fits.1 one,
    )
units_heard {F} P real z (Failed code ∷ es) parts fault kept left units fits one = (
  fits.1.0,
  flat_map (event_frame P) es ++ after_units fault kept,
  append_assoc (event_frame P (Failed code)) (flat_map (event_frame P) es) (after_units fault kept),
  refl,
  refl,
  refl,
)

fed_is : {F : Type 0} (fed : Fed F) (other : Fed F) → IsFed fed other.events other.to other.kept → fed ≡ other
fed_is fed other h i = record { events = h.0 i; to = h.1 i; kept = h.2 i }

pub fault_is_one : {F : Type 0} (P : Profile F) (z : Option (List ℕ)) (bytes : List ℕ) (u : Unpacked F) →
    UnpackedGood P z bytes u → FaultIsOne u.fault
fault_is_one P z bytes u g = elim g.ends [
  | inl h ↦ subst FaultIsOne (sym h.0) tt
  | inr h ↦ subst FaultIsOne (sym h.1) ((unit_faults P u.to).each g.left h.0 h.3)
]

pub frames_heard : {F : Type 0} (P : Profile F) → IsProfile P → (z : Option (List ℕ)) (parts : ℕ) (bytes : List ℕ) →
    IsFrom z → IsBytes bytes →
    (let u = unpack P z bytes in
    feed P (In_message parts) (frames_of P z bytes) ≡ fed_units parts u.events u.fault u.kept)
frames_heard {F} P real z parts bytes low fits =
    let u : Unpacked F = unpack P z bytes in
    let g = unpack_good P real z bytes low fits in
    let one = fault_is_one P z bytes u g in
    let fed : Fed F = fed_units parts u.events u.fault u.kept in
    let m = units_heard P real z u.events parts u.fault u.kept g.left g.units (subst IsBytes g.is fits) one in
    fed_is (feed P (In_message parts) (frames_of P z bytes)) fed
    (feed_only P real (In_message parts) fed.events (frames_of P z bytes) fed.to fed.kept m)

-- ---- a hello and then units

pub streams_heard : {F : Type 0} (P : Profile F) → IsProfile P → (bytes : List ℕ) → IsBytes bytes →
    (let u = unpack P (Some []) bytes in
    feed P Before_hello (stream_of P (P.hello ++ bytes)) ≡ fed_units 0 u.events u.fault u.kept)
streams_heard {F} P real bytes fits =
    let z : Option (List ℕ) = Some [] in
    let u : Unpacked F = unpack P z bytes in
    let g = unpack_good P real z bytes (record { not_long = (omega arith); bytes = tt }) fits in
    let one = fault_is_one P z bytes u g in
    let fed : Fed F = fed_units 0 u.events u.fault u.kept in
    let m = units_heard P real z u.events 0 u.fault u.kept g.left g.units (subst IsBytes g.is fits) one in
    let same : stream_of P (P.hello ++ bytes) ≡ P.hello ++ frames_of P z bytes =
    λ i. take_at P.hello bytes 4 real.hello i ++ frames_of P z (drop_at P.hello bytes 4 real.hello i) in
    ap (feed P Before_hello) same
    ∙ fed_is (feed P Before_hello (P.hello ++ frames_of P z bytes)) fed
    (feed_only P real Before_hello fed.events (P.hello ++ frames_of P z bytes) fed.to fed.kept
    (inr (frames_of P z bytes, refl, m)))
