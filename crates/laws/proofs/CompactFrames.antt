-- Between the compact spelling and frames.
-- A unit takes a byte or more (CompactUnits), so fuel of as many as there are bytes is enough (`unpack_enough`). The
-- units of a text are read one after another, whatever follows (`units_back`); so what is kept of bytes and more bytes
-- after it mean what the whole means (`unpack_more`). Each frame begins with a byte 0, also one that is refused, and
-- that byte alone is given where part of a unit has come: so what a beginning means is a beginning.
-- docs/LAWS.md: The compact spelling.
use Rattle.std.proofs.Common.{◌≡◌, ℕ, zero, suc, ◌/◌, ◌%◌, ◌<◌, ◌≤◌, List, [], ◌∷◌, ◌++◌, length, take, drop, Option}
use Rattle.std.proofs.Common.{Some, None, Ok, Err, refl, sym, ap, subst, ◌∙◌, arith, inl, inr, append_assoc}
use Rattle.std.specs.Prelude.{◌⊎◌, ◌==◌, flat_map}
use Rattle.definitions.proofs.Words.{IsBytes, IsUpper, range_of, Profile, IsProfile, IsPart, Event, Came, Ended, Failed}
use Rattle.definitions.proofs.Words.{Message, message_text, event_text, frame, part_text, end_text, max_body}
use Rattle.definitions.proofs.Words.{AllByRecursion, IsMessage}
use Rattle.definitions.proofs.Lemmas.{length-append, append-nil, drop_at}
use Rattle.definitions.specs.Compact.{unit_text, units_text, come_to, IsUnit, AreUnits, Climbs, message_events}
use Rattle.definitions.specs.Compact.{compact_message}
use Rattle.definitions.specs.CompactReading.{Reading, gives, unit_at}
use Rattle.definitions.specs.Packing.{Unpacked, unpacked_stays, with_unit, unpacked_by, unpack_by, unpack, faulty_body}
use Rattle.definitions.specs.Packing.{begun_text, after_units, event_frame, frames_in, frames_of, stream_of}
use Rattle.laws.specs.Compact.{IsFrom, come_through, with_units, Begins}
use Rattle.laws.proofs.Fields.{IsBytes-back, IsBytes-both, rest_fits}
use Rattle.laws.proofs.CompactFields.{by_if}
use Rattle.laws.proofs.CompactItems.{item_lower}
use Rattle.laws.proofs.CompactBodies.{part_range}
use Rattle.laws.proofs.CompactUnits.{unit_reads, unit_begins}

-- ==== Units one after another

upper_from_lower : (y : Option (List ℕ)) → IsUpper y → IsFrom y
upper_from_lower None right = tt
upper_from_lower (Some y) right = item_lower y right

pub come_right : {F : Type 0} (P : Profile F) (z : Option (List ℕ)) (e : Event F) → IsFrom z → IsUnit P z e →
    IsFrom (come_to z e)
come_right P z (Came p) low unit = upper_from_lower (range_of p).upper (part_range P p unit.0).upper
come_right P z Ended low unit = record { not_long = (omega arith); bytes = tt }
come_right P z (Failed code) low unit = low

pub come_through_right : {F : Type 0} (P : Profile F) (z : Option (List ℕ)) (es : List (Event F)) → IsFrom z →
    AreUnits P z es → IsFrom (come_through z es)
come_through_right P z [] low units = low
come_through_right P z (e ∷ es) low units =
    come_through_right P (come_to z e) es (come_right P z e low units.0) units.1

-- a unit takes a byte or more
unit_takes : {F : Type 0} (P : Profile F) → IsProfile P → (z : Option (List ℕ)) → IsFrom z → (bytes : List ℕ)
    (e : Event F) (rest : List ℕ) → IsBytes bytes → unit_at P z bytes ≡ gives e rest → length rest < length bytes
unit_takes P real z low bytes e rest fits is =
    let o = (unit_reads P real z low).only bytes e rest fits is in
    let b = unit_begins P z e o.0 o.1 in
    let some : 0 < length o.0 = omega (arith, ap length b.3) in
    omega (arith, ap length o.2, length-append o.0 rest)

-- the cases of what stands next
abbrev NextOf : {F : Type 0} → Profile F → Option (List ℕ) → List ℕ → Type 0
NextOf {F} P z bytes = ((e : Event F) × (rest : List ℕ) × (unit_at P z bytes ≡ gives e rest))
    ⊎ (((code : ℕ) × (unit_at P z bytes ≡ Err code)) ⊎ (unit_at P z bytes ≡ Ok None))

next_of : {F : Type 0} (P : Profile F) (z : Option (List ℕ)) (bytes : List ℕ) → NextOf P z bytes
next_of {F} P z bytes = cases (unit_at P z bytes) refl where
  cases : (r : Reading (Event F)) → unit_at P z bytes ≡ r → NextOf P z bytes
  cases (Ok (Some p)) e = inl (p.0, p.1, e)
  cases (Ok None) e = inr (inr e)
  cases (Err code) e = inr (inl (code, e))

-- fuel of as many as there are bytes is enough
same_fuel : {F : Type 0} (P : Profile F) → IsProfile P → (n m : ℕ) (z : Option (List ℕ)) (bytes : List ℕ) → IsFrom z →
    IsBytes bytes → length bytes ≤ n → length bytes ≤ m → unpack_by P n z bytes ≡ unpack_by P m z bytes
same_fuel P real zero zero z bytes low fits le le2 = refl
same_fuel P real zero (suc m) z [] low fits le le2 = refl
same_fuel P real zero (suc m) z (b ∷ bytes) low fits le le2 = absurd (omega arith)
same_fuel P real (suc n) zero z [] low fits le le2 = refl
same_fuel P real (suc n) zero z (b ∷ bytes) low fits le le2 = absurd (omega arith)
same_fuel P real (suc n) (suc m) z bytes low fits le le2 = elim (next_of P z bytes) [
  | inl c ↦
      let o = (unit_reads P real z low).only bytes c.0 c.1 fits c.2 in
      let less = unit_takes P real z low bytes c.0 c.1 fits c.2 in
      ap (λ r. unpacked_by r z bytes (unpack_by P n)) c.2
      ∙ ap (with_unit c.0) (same_fuel P real n m (come_to z c.0) c.1 (come_right P z c.0 low o.1.0)
      (rest_fits bytes o.0 c.1 o.2 fits) (omega arith) (omega arith))
      ∙ sym (ap (λ r. unpacked_by r z bytes (unpack_by P m)) c.2)
  | inr d ↦ elim d [
    | inl c ↦ ap (λ r. unpacked_by r z bytes (unpack_by P n)) c.1
        ∙ sym (ap (λ r. unpacked_by r z bytes (unpack_by P m)) c.1)
    | inr c ↦ ap (λ r. unpacked_by r z bytes (unpack_by P n)) c
        ∙ sym (ap (λ r. unpacked_by r z bytes (unpack_by P m)) c)
  ]
]

-- what stands next, and then the rest
unpack_next : {F : Type 0} (P : Profile F) → IsProfile P → (z : Option (List ℕ)) (bytes : List ℕ) (e : Event F)
    (rest : List ℕ) → IsFrom z → IsBytes bytes → unit_at P z bytes ≡ gives e rest →
    unpack P z bytes ≡ with_unit e (unpack P (come_to z e) rest)
unpack_next P real z [] e rest low fits is = absurd cc
unpack_next P real z (b ∷ bytes) e rest low fits is =
    let o = (unit_reads P real z low).only (b ∷ bytes) e rest fits is in
    let less = unit_takes P real z low (b ∷ bytes) e rest fits is in
    ap (λ r. unpacked_by r z (b ∷ bytes) (unpack_by P (length bytes))) is
    ∙ ap (with_unit e) (same_fuel P real (length bytes) (length rest) (come_to z e) rest (come_right P z e low o.1.0)
    (rest_fits (b ∷ bytes) o.0 rest o.2 fits) (omega arith) (omega arith))

unpack_faulty : {F : Type 0} (P : Profile F) (z : Option (List ℕ)) (bytes : List ℕ) (code : ℕ) →
    unit_at P z bytes ≡ Err code → unpack P z bytes ≡ unpacked_stays z [] (Some code)
unpack_faulty P z [] code is = absurd cc
unpack_faulty P z (b ∷ bytes) code is = ap (λ r. unpacked_by r z (b ∷ bytes) (unpack_by P (length bytes))) is

unpack_begun : {F : Type 0} (P : Profile F) (z : Option (List ℕ)) (bytes : List ℕ) → unit_at P z bytes ≡ Ok None →
    unpack P z bytes ≡ unpacked_stays z bytes None
unpack_begun P z [] is = refl
unpack_begun P z (b ∷ bytes) is = ap (λ r. unpacked_by r z (b ∷ bytes) (unpack_by P (length bytes))) is

-- the units of a text, whatever follows
pub units_back : {F : Type 0} (P : Profile F) → IsProfile P → (z : Option (List ℕ)) (es : List (Event F))
    (rest : List ℕ) → IsFrom z → AreUnits P z es → IsBytes (units_text P z es ++ rest) →
    unpack P z (units_text P z es ++ rest) ≡ with_units es (unpack P (come_through z es) rest)
units_back P real z [] rest low units fits = refl
units_back {F} P real z (e ∷ es) rest low units fits =
    let more : List ℕ = units_text P (come_to z e) es ++ rest in
    let again : (unit_text P z e ++ units_text P (come_to z e) es) ++ rest ≡ unit_text P z e ++ more =
    append_assoc (unit_text P z e) (units_text P (come_to z e) es) rest in
    let right : IsBytes (unit_text P z e ++ more) = subst IsBytes again fits in
    ap (unpack P z) again
    ∙ unpack_next P real z (unit_text P z e ++ more) e more low right
    ((unit_reads P real z low).back e (unit_text P z e) more (units.0, refl))
    ∙ ap (with_unit e) (units_back P real (come_to z e) es rest (come_right P z e low units.0) units.1
    (IsBytes-back (unit_text P z e) more right))

-- what was unpacked: units, and what is kept of one that has not all come, or the fault of what is none
pub record UnpackedGood {F : Type 0} (P : Profile F) (z : Option (List ℕ)) (bytes : List ℕ) (u : Unpacked F) : Type 0
  where
    pub left : List ℕ
    pub units : AreUnits P z u.events
    pub to : u.to ≡ come_through z u.events
    pub is : bytes ≡ units_text P z u.events ++ left
    pub ends : ((u.fault ≡ None) × (u.kept ≡ left) × (unit_at P u.to left ≡ Ok None))
        ⊎ ((code : ℕ) × (u.fault ≡ Some code) × (u.kept ≡ []) × (unit_at P u.to left ≡ Err code))

good_next : {F : Type 0} (P : Profile F) (z : Option (List ℕ)) (bytes : List ℕ) (e : Event F) (rest : List ℕ)
    (u : Unpacked F) → IsUnit P z e → bytes ≡ unit_text P z e ++ rest → UnpackedGood P (come_to z e) rest u →
    UnpackedGood P z bytes (with_unit e u)
good_next {F} P z bytes e rest u unit is g = record {
  left = g.left;
  units = (unit, g.units);
  to = g.to;
  is = is ∙ ap (λ (t : List ℕ). unit_text P z e ++ t) g.is
      ∙ sym (append_assoc (unit_text P z e) (units_text P (come_to z e) u.events) g.left);
  ends = g.ends;
}

good_begun : {F : Type 0} (P : Profile F) (z : Option (List ℕ)) (bytes : List ℕ) → unit_at P z bytes ≡ Ok None →
    UnpackedGood P z bytes (unpack P z bytes)
good_begun {F} P z bytes is = subst (λ (u : Unpacked F). UnpackedGood P z bytes u) (sym (unpack_begun P z bytes is))
    (record { left = bytes; units = tt; to = refl; is = refl; ends = inl (refl, refl, is) })

good_faulty : {F : Type 0} (P : Profile F) (z : Option (List ℕ)) (bytes : List ℕ) (code : ℕ) →
    unit_at P z bytes ≡ Err code → UnpackedGood P z bytes (unpack P z bytes)
good_faulty {F} P z bytes code is =
    subst (λ (u : Unpacked F). UnpackedGood P z bytes u) (sym (unpack_faulty P z bytes code is))
    (record { left = bytes; units = tt; to = refl; is = refl; ends = inr (code, refl, refl, is) })

unpack_good_by : {F : Type 0} (P : Profile F) → IsProfile P → (fuel : ℕ) (z : Option (List ℕ)) (bytes : List ℕ) →
    IsFrom z → IsBytes bytes → length bytes ≤ fuel → UnpackedGood P z bytes (unpack P z bytes)
unpack_good_by P real zero z [] low fits le = good_begun P z [] refl
unpack_good_by P real zero z (b ∷ bytes) low fits le = absurd (omega arith)
unpack_good_by {F} P real (suc n) z bytes low fits le = elim (next_of P z bytes) [
  | inl c ↦
      let o = (unit_reads P real z low).only bytes c.0 c.1 fits c.2 in
      let less = unit_takes P real z low bytes c.0 c.1 fits c.2 in
      let right = rest_fits bytes o.0 c.1 o.2 fits in
      subst (λ (u : Unpacked F). UnpackedGood P z bytes u) (sym (unpack_next P real z bytes c.0 c.1 low fits c.2))
      (good_next P z bytes c.0 c.1 (unpack P (come_to z c.0) c.1) o.1.0
      (o.2 ∙ ap (λ (t : List ℕ). t ++ c.1) o.1.1)
      (unpack_good_by P real n (come_to z c.0) c.1 (come_right P z c.0 low o.1.0) right (omega arith)))
  | inr d ↦ elim d [ inl c ↦ good_faulty P z bytes c.0 c.1 | inr c ↦ good_begun P z bytes c ]
]

pub unpack_good : {F : Type 0} (P : Profile F) → IsProfile P → (z : Option (List ℕ)) (bytes : List ℕ) → IsFrom z →
    IsBytes bytes → UnpackedGood P z bytes (unpack P z bytes)
unpack_good P real z bytes low fits = unpack_good_by P real (length bytes) z bytes low fits (omega arith)

-- ==== More bytes

-- where no fault was found, the units that have come and then what is kept with more bytes
pub unpack_more : {F : Type 0} (P : Profile F) → IsProfile P → (z : Option (List ℕ)) (bytes more : List ℕ) → IsFrom z →
    IsBytes bytes → IsBytes more →
    (let u = unpack P z bytes in u.fault ≡ None →
    unpack P z (bytes ++ more) ≡ with_units u.events (unpack P u.to (u.kept ++ more)))
unpack_more {F} P real z bytes more low fits fits2 none =
    let u : Unpacked F = unpack P z bytes in
    let g = unpack_good P real z bytes low fits in
    let kept : u.kept ≡ g.left = elim g.ends [ inl h ↦ h.1 | inr h ↦ absurd (let f = h.1 in cc) ] in
    let whole : bytes ++ more ≡ units_text P z u.events ++ (g.left ++ more) =
    ap (λ (t : List ℕ). t ++ more) g.is ∙ append_assoc (units_text P z u.events) g.left more in
    let right : IsBytes (units_text P z u.events ++ (g.left ++ more)) =
    subst IsBytes whole (IsBytes-both bytes more fits fits2) in
    ap (unpack P z) whole ∙ units_back P real z u.events (g.left ++ more) low g.units right
    ∙ (λ i. with_units u.events (unpack P (sym g.to i) (sym kept i ++ more)))

with_units_stays : {F : Type 0} (es : List (Event F)) (z : Option (List ℕ)) (kept : List ℕ) (fault : Option ℕ) →
    with_units es (unpacked_stays z kept fault) ≡ record { events = es; to = z; kept = kept; fault = fault }
with_units_stays [] z kept fault = refl
with_units_stays (e ∷ es) z kept fault = ap (with_unit e) (with_units_stays es z kept fault)

-- units, and then what is no unit
abbrev stopped : {F : Type 0} → Option (List ℕ) → List (Event F) → ℕ → Unpacked F
stopped z es code = with_units es (unpacked_stays (come_through z es) [] (Some code))

units_stopped : {F : Type 0} (P : Profile F) → IsProfile P → (z : Option (List ℕ)) (es : List (Event F))
    (bytes left : List ℕ) (code : ℕ) → IsFrom z → AreUnits P z es → IsBytes bytes →
    bytes ≡ units_text P z es ++ left → unit_at P (come_through z es) left ≡ Err code →
    unpack P z bytes ≡ stopped z es code
units_stopped P real z es bytes left code low units fits whole is =
    ap (unpack P z) whole ∙ units_back P real z es left low units (subst IsBytes whole fits)
    ∙ ap (with_units es) (unpack_faulty P (come_through z es) left code is)

-- a fault stays one
pub faulty_more : {F : Type 0} (P : Profile F) → IsProfile P → (z : Option (List ℕ)) (bytes more : List ℕ) → IsFrom z →
    IsBytes bytes → IsBytes more → (code : ℕ) → (unpack P z bytes).fault ≡ Some code →
    unpack P z (bytes ++ more) ≡ unpack P z bytes
faulty_more {F} P real z bytes more low fits fits2 code is =
    let u : Unpacked F = unpack P z bytes in
    let g = unpack_good P real z bytes low fits in
    let es : List (Event F) = u.events in
    elim g.ends [
      | inl h ↦ absurd (let f = h.0 in cc)
      | inr h ↦
          let here : unit_at P (come_through z es) g.left ≡ Err h.0 =
          ap (λ z. unit_at P z g.left) (sym g.to) ∙ h.3 in
          let right : IsBytes g.left = rest_fits bytes (units_text P z es) g.left g.is fits in
          let still = (unit_reads P real (come_through z es) (come_through_right P z es low g.units)).firm g.left more
          h.0 right here in
          let whole : bytes ++ more ≡ units_text P z es ++ (g.left ++ more) =
          ap (λ (t : List ℕ). t ++ more) g.is ∙ append_assoc (units_text P z es) g.left more in
          units_stopped P real z es (bytes ++ more) (g.left ++ more) h.0 low g.units
          (IsBytes-both bytes more fits fits2) whole still
          ∙ sym (units_stopped P real z es bytes g.left h.0 low g.units fits g.is here)
    ]

-- ==== Frames

pub frames_with : {F : Type 0} (P : Profile F) (es : List (Event F)) (u : Unpacked F) →
    frames_in P (with_units es u) ≡ flat_map (event_frame P) es ++ frames_in P u
frames_with P [] u = refl
frames_with P (e ∷ es) u = frames_next P e (with_units es u)
    ∙ ap (λ (t : List ℕ). event_frame P e ++ t) (frames_with P es u)
    ∙ sym (append_assoc (event_frame P e) (flat_map (event_frame P) es) (frames_in P u)) where
      frames_next : {F : Type 0} (P : Profile F) (e : Event F) (u : Unpacked F) →
          frames_in P (with_unit e u) ≡ event_frame P e ++ frames_in P u
      frames_next P e u =
          append_assoc (event_frame P e) (flat_map (event_frame P) u.events) (after_units u.fault u.kept)

-- a short frame begins with 0
frame_zero : (b : List ℕ) → length b ≤ max_body → (t : List ℕ) × (frame b ≡ 0 ∷ t)
frame_zero b le =
    let n : ℕ = length b in
    let none : n / 16777216 % 256 ≡ 0 = omega arith in
    let rest : List ℕ = (n / 65536 % 256) ∷ (n / 256 % 256) ∷ (n % 256) ∷ b in (rest, λ i. none i ∷ rest)

pub faulty_short : (code : ℕ) → length (faulty_body code) ≤ 16
faulty_short code =
    let M : List ℕ → Type 0 = λ b. length b ≤ 16 in
    by_if M (code == 4) _ _ (λ h. omega arith) (λ h.
    by_if M (code == 5) _ _ (λ h. omega arith) (λ h.
    by_if M (code == 6) _ _ (λ h. omega arith) (λ h.
    by_if M (code == 7) _ _ (λ h. omega arith) (λ h.
    by_if M (code == 8) _ _ (λ h. omega arith) (λ h.
    by_if M (code == 9) _ _ (λ h. omega arith) (λ h.
    by_if M (code == 10) _ _ (λ h. omega arith) (λ h. omega arith)))))))

pub event_short : {F : Type 0} (P : Profile F) (z : Option (List ℕ)) (e : Event F) → IsUnit P z e →
    length (event_text P e) ≤ max_body
event_short P z (Came p) unit = unit.0.short
event_short P z Ended unit = omega arith
event_short P z (Failed code) unit = omega arith

-- what bytes mean begins with 0
zero_begins : {F : Type 0} (P : Profile F) → IsProfile P → (z : Option (List ℕ)) (b : ℕ) (bytes : List ℕ) → IsFrom z →
    IsBytes (b ∷ bytes) → (t : List ℕ) × (frames_of P z (b ∷ bytes) ≡ 0 ∷ t)
zero_begins {F} P real z b bytes low fits = elim (next_of P z (b ∷ bytes)) [
  | inl c ↦
      let o = (unit_reads P real z low).only (b ∷ bytes) c.0 c.1 fits c.2 in
      let f = frame_zero (event_text P c.0) (event_short P z c.0 o.1.0) in
      let u : Unpacked F = unpack P (come_to z c.0) c.1 in (
        f.0 ++ frames_in P u,
        ap (frames_in P) (unpack_next P real z (b ∷ bytes) c.0 c.1 low fits c.2)
            ∙ frames_with P (c.0 ∷ []) u
            ∙ ap (λ (t : List ℕ). t ++ frames_in P u) (append-nil (event_frame P c.0) ∙ f.1),
      )
  | inr d ↦ elim d [
    | inl c ↦
        let f = frame_zero (faulty_body c.0) (let short = faulty_short c.0 in omega arith) in
        (f.0, ap (frames_in P) (unpack_faulty P z (b ∷ bytes) c.0 c.1) ∙ f.1)
    | inr c ↦ ([], ap (frames_in P) (unpack_begun P z (b ∷ bytes) c))
  ]
]

begun_begins : {F : Type 0} (P : Profile F) → IsProfile P → (z : Option (List ℕ)) (kept more : List ℕ) → IsFrom z →
    IsBytes (kept ++ more) → Begins (begun_text kept) (frames_of P z (kept ++ more))
begun_begins P real z [] more low fits = (frames_of P z more, refl)
begun_begins P real z (b ∷ kept) more low fits = zero_begins P real z b (kept ++ more) low fits

-- where no fault was found, the frames of the units and then those of what is kept with more bytes
pub frames_more : {F : Type 0} (P : Profile F) → IsProfile P → (z : Option (List ℕ)) (bytes more : List ℕ) → IsFrom z →
    IsBytes bytes → IsBytes more →
    (let u = unpack P z bytes in u.fault ≡ None →
    frames_of P z (bytes ++ more) ≡ flat_map (event_frame P) u.events ++ frames_of P u.to (u.kept ++ more))
frames_more {F} P real z bytes more low fits fits2 none =
    let u : Unpacked F = unpack P z bytes in
    ap (frames_in P) (unpack_more P real z bytes more low fits fits2 none)
    ∙ frames_with P u.events (unpack P u.to (u.kept ++ more))

-- the frames of units, and the byte of one that has begun
frames_here : {F : Type 0} (P : Profile F) (u : Unpacked F) → u.fault ≡ None →
    frames_in P u ≡ flat_map (event_frame P) u.events ++ begun_text u.kept
frames_here P u none = ap (λ (f : Option ℕ). flat_map (event_frame P) u.events ++ after_units f u.kept) none

-- that byte is the first of what follows
kept_begins : {F : Type 0} (P : Profile F) → IsProfile P → (z : Option (List ℕ)) (bytes more : List ℕ) → IsFrom z →
    IsBytes bytes → IsBytes more →
    (let u = unpack P z bytes in u.fault ≡ None → Begins (begun_text u.kept) (frames_of P u.to (u.kept ++ more)))
kept_begins {F} P real z bytes more low fits fits2 none =
    let u : Unpacked F = unpack P z bytes in
    let g = unpack_good P real z bytes low fits in
    let kept : u.kept ≡ g.left = elim g.ends [ inl h ↦ h.1 | inr h ↦ absurd (let f = h.1 in cc) ] in
    let right : IsBytes g.left = rest_fits bytes (units_text P z u.events) g.left g.is fits in
    let from : IsFrom u.to = subst IsFrom (sym g.to) (come_through_right P z u.events low g.units) in
    begun_begins P real u.to u.kept more from (IsBytes-both u.kept more (subst IsBytes (sym kept) right) fits2)

-- what a piece adds: all but that byte of what is kept and the piece
pub frames_added : {F : Type 0} (P : Profile F) → IsProfile P → (z : Option (List ℕ)) (bytes more : List ℕ) →
    IsFrom z → IsBytes bytes → IsBytes more →
    (let u = unpack P z bytes in u.fault ≡ None → frames_of P z (bytes ++ more)
    ≡ frames_of P z bytes ++ drop (length (begun_text u.kept)) (frames_of P u.to (u.kept ++ more)))
frames_added {F} P real z bytes more low fits fits2 none =
    let u : Unpacked F = unpack P z bytes in
    let units : List ℕ = flat_map (event_frame P) u.events in
    let begun : List ℕ = begun_text u.kept in
    let b = kept_begins P real z bytes more low fits fits2 none in
    let here : frames_of P z bytes ≡ units ++ begun = frames_here P u none in
    let added : drop (length begun) (frames_of P u.to (u.kept ++ more)) ≡ b.0 =
    ap (drop (length begun)) b.1 ∙ drop_at begun b.0 (length begun) refl in
    frames_more P real z bytes more low fits fits2 none ∙ ap (λ (t : List ℕ). units ++ t) b.1
    ∙ sym (append_assoc units begun b.0) ∙ (λ i. sym here i ++ sym added i)

-- what a beginning means is a beginning
pub frames_begin : {F : Type 0} (P : Profile F) → IsProfile P → (z : Option (List ℕ)) (bytes more : List ℕ) →
    IsFrom z → IsBytes bytes → IsBytes more → Begins (frames_of P z bytes) (frames_of P z (bytes ++ more))
frames_begin {F} P real z bytes more low fits fits2 = cases (unpack P z bytes).fault refl where
  cases : (f : Option ℕ) → (unpack P z bytes).fault ≡ f → Begins (frames_of P z bytes) (frames_of P z (bytes ++ more))
  cases None is = let u : Unpacked F = unpack P z bytes in (
    drop (length (begun_text u.kept)) (frames_of P u.to (u.kept ++ more)),
    frames_added P real z bytes more low fits fits2 is,
  )
  cases (Some code) is = (
    [],
    ap (frames_in P) (faulty_more P real z bytes more low fits fits2 code is)
        ∙ sym (append-nil (frames_of P z bytes)),
  )

-- and where it comes to, what it keeps and its fault
pub ends_with : {F : Type 0} (es : List (Event F)) (u : Unpacked F) →
    ((with_units es u).to ≡ u.to) × ((with_units es u).kept ≡ u.kept) × ((with_units es u).fault ≡ u.fault)
ends_with [] u = (refl, refl, refl)
ends_with (e ∷ es) u = ends_with es u

-- ==== Messages

-- units mean their frames, whatever follows
pub units_mean : {F : Type 0} (P : Profile F) → IsProfile P → (z : Option (List ℕ)) (es : List (Event F))
    (rest : List ℕ) → IsFrom z → AreUnits P z es → IsBytes (units_text P z es ++ rest) →
    frames_of P z (units_text P z es ++ rest) ≡ flat_map (event_frame P) es ++ frames_of P (come_through z es) rest
units_mean P real z es rest low units fits = ap (frames_in P) (units_back P real z es rest low units fits)
    ∙ frames_with P es (unpack P (come_through z es) rest)

message_units : {F : Type 0} (P : Profile F) (z : Option (List ℕ)) (M : Message F) → AllByRecursion (IsPart P) M →
    Climbs z M → AreUnits P z (message_events M)
message_units P z [] parts climbs = (tt, tt)
message_units P z (p ∷ ps) parts climbs =
    ((parts.0, climbs.0), message_units P (range_of p).upper ps parts.1 climbs.1)

pub message_comes : {F : Type 0} (z : Option (List ℕ)) (M : Message F) → come_through z (message_events M) ≡ Some []
message_comes z [] = refl
message_comes z (p ∷ ps) = message_comes (range_of p).upper ps

pub message_frames : {F : Type 0} (P : Profile F) (M : Message F) →
    flat_map (event_frame P) (message_events M) ≡ message_text P M
message_frames P [] = append-nil end_text
message_frames P (p ∷ ps) = ap (λ (t : List ℕ). part_text P p ++ t) (message_frames P ps)
    ∙ sym (append_assoc (part_text P p) (flat_map (part_text P) ps) end_text)

-- a message whose ranges climb means its frames
pub message_means : {F : Type 0} (P : Profile F) → IsProfile P → (M : Message F) (rest : List ℕ) → IsMessage P M →
    Climbs (Some []) M → IsBytes (compact_message P M ++ rest) →
    frames_of P (Some []) (compact_message P M ++ rest) ≡ message_text P M ++ frames_of P (Some []) rest
message_means P real M rest right climbs fits =
    units_mean P real (Some []) (message_events M) rest (record { not_long = (omega arith); bytes = tt })
    (message_units P (Some []) M right.parts climbs) fits
    ∙ (λ i. message_frames P M i ++ frames_of P (message_comes (Some []) M i) rest)

-- ==== A hello and then units

stream_begin : {F : Type 0} (P : Profile F) → IsProfile P → (bytes more : List ℕ) → IsBytes bytes → IsBytes more →
    Begins (stream_of P bytes) (stream_of P (bytes ++ more))
stream_begin P real [] more fits fits2 = (stream_of P more, refl)
stream_begin P real (a ∷ []) more fits fits2 = (take 3 more ++ frames_of P (Some []) (drop 3 more), refl)
stream_begin P real (a ∷ b ∷ []) more fits fits2 = (take 2 more ++ frames_of P (Some []) (drop 2 more), refl)
stream_begin P real (a ∷ b ∷ c ∷ []) more fits fits2 = (take 1 more ++ frames_of P (Some []) (drop 1 more), refl)
stream_begin P real (a ∷ b ∷ c ∷ d ∷ bytes) more fits fits2 =
    let f = frames_begin P real (Some []) bytes more (record { not_long = (omega arith); bytes = tt }) fits.1.1.1.1
    fits2 in
    (f.0, ap (λ (t : List ℕ). a ∷ b ∷ c ∷ d ∷ t) f.1)

pub streams_begin : {F : Type 0} (P : Profile F) → IsProfile P → (bytes more : List ℕ) → IsBytes bytes → IsBytes more →
    Begins (stream_of P bytes) (stream_of P (bytes ++ more))
streams_begin P real bytes more fits fits2 = stream_begin P real bytes more fits fits2
