-- Packing what bytes mean gives the bytes back.
-- Up to the last whole unit each frame is packed as the unit that it came from (CompactPacked). What is left is no
-- whole frame, or one that is refused (CompactHeard), and is kept. So bytes that mean the same frames are the same up
-- to there; and what is read as one message and nothing else is the one spelling of it.
-- docs/LAWS.md: The compact spelling.
use Rattle.std.proofs.Common.{◌≡◌, ℕ, ◌≤◌, Bool, List, [], ◌∷◌, ◌++◌, length, Option, Some, None, Ok, Err, refl, sym}
use Rattle.std.proofs.Common.{ap, subst, ◌∙◌, arith, rules, inl, inr, append_assoc}
use Rattle.std.specs.Prelude.{◌==◌, flat_map}
use Rattle.definitions.proofs.Words.{IsBytes, IsItem, IsUpper, Item, Range, Profile, IsProfile, IsMessage, Message}
use Rattle.definitions.proofs.Words.{Event, Came, Ended, Failed, AllByRecursion, message_text, Stream, event_at}
use Rattle.definitions.proofs.Words.{range_of, Spells, message_in, frame, event_text, body, short_text, upper_text}
use Rattle.definitions.proofs.Words.{range_text, count_text, items_text, marks_text, mark_bytes, Part, Sum, Listing}
use Rattle.definitions.proofs.Words.{Answer, IsPart, IsRange}
use Rattle.definitions.proofs.Lemmas.{append-nil}
use Rattle.definitions.specs.Compact.{unit_text, units_text, come_to, IsUnit, AreUnits, compact_message, Climbs}
use Rattle.definitions.specs.Compact.{message_events, bound_text, compact_body, compact_marks, compact_items}
use Rattle.definitions.specs.Compact.{field_text, number_text, skip_text}
use Rattle.definitions.specs.Packing.{Unpacked, unpack, faulty_body, faulty_text, begun_text, after_units, event_frame}
use Rattle.definitions.specs.Packing.{frames_of, Packed, with_text, pack}
use Rattle.laws.specs.Compact.{IsFrom, come_through, HasFrame}
use Rattle.laws.proofs.Fields.{IsBytes-back, IsBytes-front, IsBytes-both}
use Rattle.laws.proofs.Messages.{event_at_told, message_exact}
use Rattle.laws.proofs.CompactBounds.{given_is}
use Rattle.laws.proofs.CompactFields.{by_if}
use Rattle.laws.proofs.CompactFrames.{UnpackedGood, unpack_good, event_short, message_means, message_frames}
use Rattle.laws.proofs.CompactHeard.{FaultIsOne, fault_is_one, faulty_frame}
use Rattle.laws.proofs.CompactPacked.{packs_nothing, faulty_packed, events_packed, event_next, message_packed}
use Rattle.laws.proofs.CompactPacked.{parts_have}

-- ==== Packing what bytes mean

abbrev record_of : List ℕ → Option (List ℕ) → List ℕ → Packed
record_of text z kept = record { text = text; to = z; kept = kept }

left_packed : {F : Type 0} (P : Profile F) → IsProfile P → (z : Option (List ℕ)) (fault : Option ℕ) (kept : List ℕ) →
    FaultIsOne fault → pack P z (after_units fault kept) ≡ packs_nothing z (after_units fault kept)
left_packed P real z None [] one = refl
left_packed P real z None (b ∷ kept) one = refl
left_packed P real z (Some code) kept one =
    let all : List ℕ = faulty_text code in
    let is : event_at P Stream 0 all ≡ Err code = ap (event_at P Stream 0) (sym (append-nil all))
    ∙ (event_at_told P real Stream 0 (all ++ [])).bad code (faulty_frame P real code one 0 []) in
    faulty_packed P z all code is

units_have : {F : Type 0} (P : Profile F) (z : Option (List ℕ)) (es : List (Event F)) (left : List ℕ) →
    AreUnits P z es → IsBytes (units_text P z es ++ left) → AllByRecursion (HasFrame P) es
units_have P z [] left units fits = tt
units_have P z (Came p ∷ es) left units fits = (
  (units.0.0.fields, event_short P z (Came p) units.0),
  units_have P (range_of p).upper es left units.1 (IsBytes-back (unit_text P z (Came p))
      (units_text P (range_of p).upper es ++ left)
      (subst IsBytes (append_assoc (unit_text P z (Came p)) (units_text P (range_of p).upper es) left) fits)),
)
units_have P z (Ended ∷ es) left units fits = ((tt, omega arith), units_have P (Some []) es left units.1 fits.1)
units_have P z (Failed code ∷ es) left units fits =
    ((fits.1.0, omega arith), units_have P z es left units.1 fits.1.1)

pub undone : {F : Type 0} (P : Profile F) → IsProfile P → (z : Option (List ℕ)) (bytes : List ℕ) → IsFrom z →
    IsBytes bytes → (let u = unpack P z bytes in pack P z (frames_of P z bytes)
    ≡ record { text = units_text P z u.events; to = u.to; kept = after_units u.fault u.kept })
undone {F} P real z bytes low fits =
    let u : Unpacked F = unpack P z bytes in
    let g = unpack_good P real z bytes low fits in
    let left : List ℕ = after_units u.fault u.kept in
    events_packed P real z u.events left (units_have P z u.events g.left g.units (subst IsBytes g.is fits))
    ∙ ap (with_text (units_text P z u.events))
    (left_packed P real (come_through z u.events) u.fault u.kept (fault_is_one P z bytes u g))
    ∙ (λ i. record { text = append-nil (units_text P z u.events) i; to = sym g.to i; kept = left })

-- bytes that mean the same frames are the same up to the last whole unit
pub same_units : {F : Type 0} (P : Profile F) → IsProfile P → (z : Option (List ℕ)) (a b : List ℕ) → IsFrom z →
    IsBytes a → IsBytes b → frames_of P z a ≡ frames_of P z b →
    units_text P z (unpack P z a).events ≡ units_text P z (unpack P z b).events
same_units P real z a b low fits fits2 same =
    ap (λ (p : Packed). p.text) (sym (undone P real z a low fits) ∙ ap (pack P z) same ∙ undone P real z b low fits2)

-- ==== The frames are bytes

text_bytes : (x : Item) → length x ≤ 64 → IsBytes x → IsBytes (short_text x)
text_bytes x long fits = (omega arith, fits)

upper_bytes : (y : Option (List ℕ)) → IsUpper y → IsBytes (upper_text y)
upper_bytes None right = (omega arith, tt)
upper_bytes (Some y) right = text_bytes y right.not_long right.bytes

range_bytes : (X : Range) → IsRange X → IsBytes (range_text X)
range_bytes X right = IsBytes-both (short_text X.lower) (upper_text X.upper)
    (text_bytes X.lower right.lower.not_long right.lower.bytes) (upper_bytes X.upper right.upper)

count_bytes : (n : ℕ) → IsBytes (count_text n)
count_bytes n = (omega arith, (omega arith, (omega arith, (omega arith, tt))))

each_bytes : (xs : List Item) → AllByRecursion IsItem xs → IsBytes (flat_map short_text xs)
each_bytes [] each = tt
each_bytes (x ∷ xs) each = IsBytes-both (short_text x) (flat_map short_text xs)
    (text_bytes x each.0.not_long each.0.bytes) (each_bytes xs each.1)

items_bytes : (xs : List Item) → AllByRecursion IsItem xs → IsBytes (items_text xs)
items_bytes xs each =
    IsBytes-both (count_text (length xs)) (flat_map short_text xs) (count_bytes (length xs)) (each_bytes xs each)

-- the marks of an Answer stand in its compact text
marks_in_text : (X : Range) (marks : List Bool) (xs : List Item) →
    IsBytes (bound_text 3 X.lower X.upper ++ field_text (compact_marks marks ++ compact_items X.lower xs)) →
    IsBytes (mark_bytes marks)
marks_in_text X marks xs fits =
    let held : List ℕ = compact_marks marks ++ compact_items X.lower xs in
    let field = IsBytes-back (bound_text 3 X.lower X.upper) (field_text held) fits in
    let all = IsBytes-back (number_text (length held)) held field in
    IsBytes-back (number_text (length marks)) (mark_bytes marks)
    (IsBytes-front (compact_marks marks) (compact_items X.lower xs) all)

body_bytes : {F : Type 0} (P : Profile F) (p : Part F) → IsPart P p → IsBytes (compact_body P p) → IsBytes (body P p)
body_bytes P (Sum X f) part fits = (
  omega arith,
  IsBytes-both (range_text X) (P.text f) (range_bytes X part.fields.0)
      (IsBytes-back (bound_text 1 X.lower X.upper) (P.text f) fits),
)
body_bytes P (Listing X xs) part fits = (
  omega arith,
  IsBytes-both (range_text X) (items_text xs) (range_bytes X part.fields.0) (items_bytes xs part.fields.1.each),
)
body_bytes P (Answer X marks xs) part fits = (
  omega arith,
  IsBytes-both (range_text X) (marks_text marks ++ items_text xs) (range_bytes X part.fields.0)
      (IsBytes-both (marks_text marks) (items_text xs)
      (IsBytes-both (count_text (length marks)) (mark_bytes marks) (count_bytes (length marks))
      (marks_in_text X marks xs fits)) (items_bytes xs part.fields.2.each)),
)

event_bytes : {F : Type 0} (P : Profile F) (z : Option (List ℕ)) (e : Event F) → IsUnit P z e →
    IsBytes (unit_text P z e) → IsBytes (event_text P e)
event_bytes P None (Came p) unit fits = absurd unit.1
event_bytes P (Some z) (Came p) unit fits =
    body_bytes P p unit.0 (IsBytes-back (skip_text z (range_of p).lower) (compact_body P p) fits)
event_bytes P z Ended unit fits = (omega arith, tt)
event_bytes P z (Failed code) unit fits = (omega arith, (fits.1.0, tt))

frame_bytes : (b : List ℕ) → IsBytes b → IsBytes (frame b)
frame_bytes b fits = IsBytes-both (count_text (length b)) b (count_bytes (length b)) fits

units_bytes : {F : Type 0} (P : Profile F) (z : Option (List ℕ)) (es : List (Event F)) → AreUnits P z es →
    IsBytes (units_text P z es) → IsBytes (flat_map (event_frame P) es)
units_bytes P z [] units fits = tt
units_bytes P z (e ∷ es) units fits = IsBytes-both (event_frame P e) (flat_map (event_frame P) es)
    (frame_bytes (event_text P e) (event_bytes P z e units.0
    (IsBytes-front (unit_text P z e) (units_text P (come_to z e) es) fits)))
    (units_bytes P (come_to z e) es units.1 (IsBytes-back (unit_text P z e) (units_text P (come_to z e) es) fits))

faulty_bytes : (code : ℕ) → IsBytes (faulty_body code)
faulty_bytes code =
    by_if IsBytes (code == 4) _ _ (λ h. search rules) (λ h.
    by_if IsBytes (code == 5) _ _ (λ h. search rules) (λ h.
    by_if IsBytes (code == 6) _ _ (λ h. search rules) (λ h.
    by_if IsBytes (code == 7) _ _ (λ h. search rules) (λ h.
    by_if IsBytes (code == 8) _ _ (λ h. search rules) (λ h.
    by_if IsBytes (code == 9) _ _ (λ h. search rules) (λ h.
    by_if IsBytes (code == 10) _ _ (λ h. search rules) (λ h. tt)))))))

left_bytes : (fault : Option ℕ) (kept : List ℕ) → IsBytes (after_units fault kept)
left_bytes None [] = tt
left_bytes None (b ∷ kept) = (omega arith, tt)
left_bytes (Some code) kept = frame_bytes (faulty_body code) (faulty_bytes code)

pub frames_are_bytes : {F : Type 0} (P : Profile F) → IsProfile P → (z : Option (List ℕ)) (bytes : List ℕ) → IsFrom z →
    IsBytes bytes → IsBytes (frames_of P z bytes)
frames_are_bytes {F} P real z bytes low fits =
    let u : Unpacked F = unpack P z bytes in
    let g = unpack_good P real z bytes low fits in
    IsBytes-both (flat_map (event_frame P) u.events) (after_units u.fault u.kept)
    (units_bytes P z u.events g.units (IsBytes-front (units_text P z u.events) g.left (subst IsBytes g.is fits)))
    (left_bytes u.fault u.kept)

-- ==== One message and nothing else

-- frames are those of one list of events
frames_same : {F : Type 0} (P : Profile F) → IsProfile P → (es fs : List (Event F)) → AllByRecursion (HasFrame P) es →
    AllByRecursion (HasFrame P) fs → flat_map (event_frame P) es ≡ flat_map (event_frame P) fs → es ≡ fs
frames_same P real [] [] has has2 same = refl
frames_same P real [] (f ∷ fs) has has2 same = absurd cc
frames_same P real (e ∷ es) [] has has2 same = absurd cc
frames_same P real (e ∷ es) (f ∷ fs) has has2 same =
    let p = given_is e f (flat_map (event_frame P) es) (flat_map (event_frame P) fs)
    (sym (event_next P real e (flat_map (event_frame P) es) has.0) ∙ ap (event_at P Stream 0) same
    ∙ event_next P real f (flat_map (event_frame P) fs) has2.0) in
    (λ i. p.0 i ∷ frames_same P real es fs has.1 has2.1 p.1 i)

units_climb : {F : Type 0} (P : Profile F) (z : Option (List ℕ)) (M : Message F) → AreUnits P z (message_events M) →
    Climbs z M
units_climb P z [] units = tt
units_climb P z (p ∷ ps) units = (units.0.1, units_climb P (range_of p).upper ps units.1)

nothing_begun : (kept : List ℕ) → begun_text kept ≡ [] → kept ≡ []
nothing_begun [] none = refl
nothing_begun (b ∷ kept) none = absurd cc

no_left : {F : Type 0} (P : Profile F) (z : Option (List ℕ)) (bytes : List ℕ) (u : Unpacked F)
    (g : UnpackedGood P z bytes u) → after_units u.fault u.kept ≡ [] → g.left ≡ []
no_left P z bytes u g none = elim g.ends [
  | inl h ↦ sym h.1 ∙ nothing_begun u.kept (ap (λ (f : Option ℕ). after_units f u.kept) (sym h.0) ∙ none)
  | inr h ↦ absurd (let some = ap (λ (f : Option ℕ). after_units f u.kept) (sym h.1) ∙ none in cc)
]

start : IsFrom (Some [])
start = record { not_long = (omega arith); bytes = tt }

pub message_back : {F : Type 0} (P : Profile F) → IsProfile P → (M : Message F) → IsMessage P M → Climbs (Some []) M →
    IsBytes (compact_message P M) → message_in P (frames_of P (Some []) (compact_message P M)) ≡ Ok M
message_back {F} P real M right climbs fits =
    let same : frames_of P (Some []) (compact_message P M) ≡ message_text P M =
    ap (frames_of P (Some [])) (sym (append-nil (compact_message P M)))
    ∙ message_means P real M [] right climbs (subst IsBytes (sym (append-nil (compact_message P M))) fits)
    ∙ append-nil (message_text P M) in
    (message_exact P real (frames_of P (Some []) (compact_message P M))).0 M (right, same)

pub message_only : {F : Type 0} (P : Profile F) → IsProfile P → (bytes : List ℕ) → IsBytes bytes → (M : Message F) →
    message_in P (frames_of P (Some []) bytes) ≡ Ok M →
    IsMessage P M × Climbs (Some []) M × (bytes ≡ compact_message P M)
message_only {F} P real bytes fits M is =
    let z : Option (List ℕ) = Some [] in
    let u : Unpacked F = unpack P z bytes in
    let g = unpack_good P real z bytes start fits in
    let all : List ℕ = frames_of P z bytes in
    let spells : Spells P M all =
    ((message_exact P real all).2 (frames_are_bytes P real z bytes start fits)).0 M is in
    let packed : record_of (units_text P z u.events) u.to (after_units u.fault u.kept)
    ≡ record_of (compact_message P M ++ []) (Some []) [] =
    sym (undone P real z bytes start fits) ∙ ap (pack P z) (spells.1 ∙ sym (append-nil (message_text P M)))
    ∙ message_packed P real M [] spells.0 in
    let text : units_text P z u.events ≡ compact_message P M =
    ap (λ (p : Packed). p.text) packed ∙ append-nil (compact_message P M) in
    let none : after_units u.fault u.kept ≡ [] = ap (λ (p : Packed). p.kept) packed in
    let frames : flat_map (event_frame P) u.events ≡ flat_map (event_frame P) (message_events M) =
    sym (append-nil (flat_map (event_frame P) u.events))
    ∙ ap (λ (t : List ℕ). flat_map (event_frame P) u.events ++ t) (sym none) ∙ spells.1 ∙ sym (message_frames P M) in
    let events : u.events ≡ message_events M = frames_same P real u.events (message_events M)
    (units_have P z u.events g.left g.units (subst IsBytes g.is fits)) (parts_have P M spells.0.parts) frames in (
      spells.0,
      units_climb P z M (subst (λ (es : List (Event F)). AreUnits P z es) events g.units),
      g.is ∙ ap (λ (t : List ℕ). units_text P z u.events ++ t) (no_left P z bytes u g none)
          ∙ append-nil (units_text P z u.events) ∙ text,
    )
