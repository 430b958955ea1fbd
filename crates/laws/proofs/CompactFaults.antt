-- The faults of the compact spelling have their numbers in a session.
-- Each reading finds no fault but 2 and 4 to 10, since each test has one of these numbers, and so has all that is put
-- together of them. For each of these numbers the frames that stand for it are refused so: their body is read, whatever
-- the profile, and the reading of a body gives the number by computation.
-- docs/LAWS.md: The compact spelling.
use Rattle.std.proofs.Common.{◌≡◌, ℕ, zero, suc, ◌+◌, ◌*◌, ◌/◌, ◌%◌, ◌-◌, ◌≤◌, Bool, true, false, List, [], ◌∷◌, ◌++◌}
use Rattle.std.proofs.Common.{length, take, drop, Option, Some, None, Ok, Err, refl, sym, subst, arith, inl, inr}
use Rattle.std.specs.Prelude.{◌⊎◌, ◌==◌, ◌||◌, not, nat_lt, if◌then◌else◌, bytes_eq}
use Rattle.definitions.proofs.Words.{Part, Sum, Listing, Answer, range_of, Profile, Came, Failed, Ended, Item, Range}
use Rattle.definitions.proofs.Words.{is_below, short_text, is_item_length, mark_bytes, mark_bytes_for, marks_in, body}
use Rattle.definitions.proofs.Words.{max_body}
use Rattle.definitions.specs.Compact.{common_length}
use Rattle.definitions.specs.CompactReading.{Reading, ◌>>=◌, gives, but_not, byte_from, bytes_from, amount_at}
use Rattle.definitions.specs.CompactReading.{goes_above, share_at, rest_length_at, rest_at, bound_at, upper_from}
use Rattle.definitions.specs.CompactReading.{digits_from, number_from, is_next, entry_length_from, entry_rest_from}
use Rattle.definitions.specs.CompactReading.{entry_from, item_from, others_from, entries_from, wide_items_from}
use Rattle.definitions.specs.CompactReading.{items_from, part_items_from, marks_of, marks_from, max_field, all_of}
use Rattle.definitions.specs.CompactReading.{held_from, field_from, fields_from, body_from, skipped_from, part_from}
use Rattle.definitions.specs.CompactReading.{end_fault, came_at, unit_at}
use Rattle.definitions.specs.Refusals.{frame_length, bad_kind, bad_bound, empty_range, item_length, item_order}
use Rattle.definitions.specs.Refusals.{item_outside, mark_padding}
use Rattle.laws.proofs.CompactBounds.{cases_of}
use Rattle.laws.proofs.CompactFields.{by_if}

-- ==== Which numbers there are

abbrev pub IsUnitFault : ℕ → Type 0
IsUnitFault code = (code ≡ 2) ⊎ ((4 ≤ code) × (code ≤ 10))

pub record Faults {A : Type 0} (read : List ℕ → Reading A) : Type 0 where
  pub each : (bytes : List ℕ) (code : ℕ) → read bytes ≡ Err code → IsUnitFault code

found : {A : Type 0} (code other : ℕ) → IsUnitFault code → Path (Reading A) (Err code) (Err other) → IsUnitFault other
found code other is e = subst IsUnitFault (let same : code ≡ other = cc in same) is

then_faults : {A B : Type 0} {read : List ℕ → Reading A} → Faults read → (k : A × List ℕ → Reading B) →
    ((x : A) → Faults (λ rest. k (x, rest))) → Faults (λ bytes. read bytes >>= k)
then_faults {A} {B} {read} f k goes = record {
  each = λ bytes code e. elim (cases_of (read bytes) k (Err code) e) [
    | inl c ↦ (goes c.0).each c.1 code c.3
    | inr d ↦ elim d [
      | inl c ↦ found {A = B} c.0 code (f.each bytes c.0 c.1) (sym c.2)
      | inr c ↦ absurd (let n = c.1 in cc)
    ]
  ];
}

if_faults : {A : Type 0} (b : Bool) {r s : List ℕ → Reading A} → Faults r → Faults s →
    Faults (λ bytes. if b then r bytes else s bytes)
if_faults true f g = f
if_faults false f g = g

gives_faults : {A : Type 0} (x : A) → Faults (gives x)
gives_faults x = record { each = λ bytes code e. absurd cc }

none_faults : {A : Type 0} → Faults {A = A} (λ bytes. Ok None)
none_faults = record { each = λ bytes code e. absurd cc }

err_faults : {A : Type 0} (code : ℕ) → IsUnitFault code → Faults {A = A} (λ bytes. Err code)
err_faults {A} code is = record { each = λ bytes other e. found {A = A} code other is e }

test_faults : {A : Type 0} (wrong : Bool) (code : ℕ) (x : A) → IsUnitFault code →
    Faults (λ bytes. but_not wrong code (x, bytes))
test_faults true code x is = err_faults code is
test_faults false code x is = gives_faults x

tested_faults : {A B : Type 0} {read : List ℕ → Reading A} → Faults read → (wrong : A → Bool) (code : ℕ) (f : A → B) →
    IsUnitFault code → Faults (λ bytes. read bytes >>= (λ p. but_not (wrong p.0) code (f p.0, p.1)))
tested_faults r wrong code f is =
    then_faults r (λ p. but_not (wrong p.0) code (f p.0, p.1)) (λ x. test_faults (wrong x) code (f x) is)

mapped_faults : {A B : Type 0} {read : List ℕ → Reading A} → Faults read → (f : A → B) →
    Faults (λ bytes. read bytes >>= (λ p. gives (f p.0) p.1))
mapped_faults r f = then_faults r (λ p. gives (f p.0) p.1) (λ x. gives_faults (f x))

two : IsUnitFault 2
two = inl refl

within : (code : ℕ) → 4 ≤ code → code ≤ 10 → IsUnitFault code
within code low high = inr (low, high)

byte_faults : Faults byte_from
byte_faults = record { each = none } where
  none : (bytes : List ℕ) (code : ℕ) → byte_from bytes ≡ Err code → IsUnitFault code
  none [] code e = absurd cc
  none (b ∷ bytes) code e = absurd cc

bytes_faults : (n : ℕ) → Faults (bytes_from n)
bytes_faults n = record { each = λ bytes code e. none (nat_lt (length bytes) n) bytes code e } where
  none : (b : Bool) (bytes : List ℕ) (code : ℕ) →
      (if b then Ok None else gives (take n bytes) (drop n bytes)) ≡ Err code → IsUnitFault code
  none true bytes code e = absurd cc
  none false bytes code e = absurd cc

-- ---- bounds

amount_faults : (n : ℕ) → Faults (amount_at n)
amount_faults n = if_faults (nat_lt n 7) (gives_faults n)
    (tested_faults byte_faults (λ m. nat_lt m 7) bad_bound (λ m. m) (within 5 (omega arith) (omega arith)))

share_faults : (z : List ℕ) (head : ℕ) → Faults (share_at z head)
share_faults z head = tested_faults (amount_faults (head / 8 % 8)) (λ s. nat_lt 63 s || nat_lt (length z) s) bad_bound
    (λ s. s) (within 5 (omega arith) (omega arith))

length_faults : (s head : ℕ) → Faults (rest_length_at s head)
length_faults s head = tested_faults (amount_faults (head % 8)) (λ l. nat_lt 64 (s + l)) bad_bound (λ l. l)
    (within 5 (omega arith) (omega arith))

rest_faults : (z : List ℕ) (s l : ℕ) → Faults (rest_at z s l)
rest_faults z s l = tested_faults (bytes_faults l) (λ rest. not (goes_above (drop s z) rest)) empty_range
    (λ rest. take s z ++ rest) (within 6 (omega arith) (omega arith))

bound_faults : (z : List ℕ) (head : ℕ) → Faults (bound_at z head)
bound_faults z head = then_faults (share_faults z head)
    (λ s. rest_length_at s.0 head s.1 >>= (λ l. rest_at z s.0 l.0 l.1))
    (λ s. then_faults (length_faults s head) (λ l. rest_at z s l.0 l.1) (λ l. rest_faults z s l))

upper_faults : (z : List ℕ) (head : ℕ) → Faults (upper_from z head)
upper_faults z head = if_faults (head % 8 == 0)
    (test_faults (not (head / 8 % 8 == 0)) bad_bound None (within 5 (omega arith) (omega arith)))
    (mapped_faults (bound_faults z head) (λ y. Some y))

-- ---- fields

digits_faults : (places n : ℕ) → Faults (digits_from places n)
digits_faults zero n = err_faults frame_length two
digits_faults (suc places) n = record { each = cases (digits_faults places) } where
  cases : ((m : ℕ) → Faults (digits_from places m)) → (bytes : List ℕ) (code : ℕ) →
      digits_from (suc places) n bytes ≡ Err code → IsUnitFault code
  cases more [] code e = absurd cc
  cases more (b ∷ bytes) code e =
      (if_faults (nat_lt b 128) (gives_faults (128 * n + b)) (more (128 * n + b % 128))).each bytes code e

number_faults : Faults number_from
number_faults = record { each = cases } where
  cases : (bytes : List ℕ) (code : ℕ) → number_from bytes ≡ Err code → IsUnitFault code
  cases [] code e = absurd cc
  cases (b ∷ bytes) code e =
      (if_faults (b == 128) (err_faults frame_length two) (digits_faults 4 0)).each (b ∷ bytes) code e

entry_length_faults : (width s : ℕ) → Faults (entry_length_from width s)
entry_length_faults width s = if_faults (width == 0)
    (tested_faults byte_faults (λ l. not (is_item_length (s + l))) item_length (λ l. l)
    (within 7 (omega arith) (omega arith)))
    (test_faults (nat_lt width s) item_length (width - s) (within 7 (omega arith) (omega arith)))

entry_faults : (width : ℕ) (first : Bool) (before : List ℕ) → Faults (entry_from width first before)
entry_faults width first before = then_faults
    (tested_faults byte_faults (λ s. nat_lt (length before) s) item_length (λ s. s)
    (within 7 (omega arith) (omega arith)))
    (λ s. entry_length_from width s.0 s.1 >>= (λ l. entry_rest_from first before s.0 l.0 l.1))
    (λ s. then_faults (entry_length_faults width s) (λ l. entry_rest_from first before s l.0 l.1)
    (λ l. tested_faults (bytes_faults l) (λ held. not (is_next first before s held)) item_order
    (λ held. take s before ++ held) (within 8 (omega arith) (omega arith))))

item_faults : (width : ℕ) (y : Option (List ℕ)) (room : ℕ) (first : Bool) (before : List ℕ) →
    Faults (item_from width y room first before)
item_faults width y room first before = then_faults (entry_faults width first before)
    (λ x. but_not (not (is_below x.0 y)) item_outside x
    >>= (λ z. but_not (nat_lt room (length (short_text z.0))) frame_length z))
    (λ x. tested_faults (test_faults (not (is_below x y)) item_outside x (within 9 (omega arith) (omega arith)))
    (λ z. nat_lt room (length (short_text z))) frame_length (λ z. z) two)

others_faults : (more : List ℕ → Reading (List Item)) → Faults more → Faults (others_from more)
others_faults more f = record { each = cases } where
  cases : (bytes : List ℕ) (code : ℕ) → others_from more bytes ≡ Err code → IsUnitFault code
  cases [] code e = absurd cc
  cases (b ∷ bytes) code e = f.each (b ∷ bytes) code e

entries_faults : (fuel width : ℕ) (y : Option (List ℕ)) (room : ℕ) (first : Bool) (before : List ℕ) →
    Faults (entries_from fuel width y room first before)
entries_faults zero width y room first before = none_faults
entries_faults (suc fuel) width y room first before = then_faults (item_faults width y room first before)
    (λ x. others_from (entries_from fuel width y (room - length (short_text x.0)) false x.0) x.1
    >>= (λ xs. gives (x.0 ∷ xs.0) xs.1))
    (λ x. mapped_faults (others_faults (entries_from fuel width y (room - length (short_text x)) false x)
    (entries_faults fuel width y (room - length (short_text x)) false x)) (λ xs. x ∷ xs))

items_faults : (X : Range) (room : ℕ) → Faults (items_from X room)
items_faults X room = record { each = cases } where
  wide : (width : ℕ) → Faults (wide_items_from width X room)
  wide width = record {
    each = λ bytes. (tested_faults (entries_faults (length bytes) width X.upper room true X.lower)
        (λ xs. not (common_length xs == width)) item_length (λ xs. xs)
        (within 7 (omega arith) (omega arith))).each bytes;
  }

  cases : (bytes : List ℕ) (code : ℕ) → items_from X room bytes ≡ Err code → IsUnitFault code
  cases [] code e = absurd cc
  cases (width ∷ bytes) code e = (if_faults (nat_lt 64 width)
      (err_faults item_length (within 7 (omega arith) (omega arith))) (wide width)).each bytes code e

part_items_faults : {F : Type 0} (P : Profile F) (p : Part F) → Faults (part_items_from P p)
part_items_faults P p = if_faults (nat_lt max_body (length (body P p))) (err_faults frame_length two)
    (items_faults (range_of p) (max_body - length (body P p)))

marks_faults : Faults marks_from
marks_faults = then_faults number_faults (λ n. marks_of n.0 n.1)
    (λ n. tested_faults (bytes_faults (mark_bytes_for n))
    (λ held. not (bytes_eq held (mark_bytes (marks_in n held)))) mark_padding (marks_in n)
    (within 10 (omega arith) (omega arith)))

held_faults : {A : Type 0} {inside : List ℕ → Reading A} → Faults inside → (n : ℕ) → Faults (held_from inside n)
held_faults {A} {inside} f n = then_faults (bytes_faults n) (λ field. all_of (inside field.0) field.1)
    (λ field. record { each = λ bytes code e. cases (inside field) bytes code (f.each field code) e }) where
      cases : (r : Reading A) (bytes : List ℕ) (code : ℕ) → (r ≡ Err code → IsUnitFault code) →
          all_of r bytes ≡ Err code → IsUnitFault code
      cases (Ok (Some p)) bytes code is e = absurd cc
      cases (Ok None) bytes code is e = found {A = A} frame_length code two e
      cases (Err other) bytes code is e = is e

field_faults : {A : Type 0} {inside : List ℕ → Reading A} → Faults inside → Faults (field_from inside)
field_faults {A} {inside} f = then_faults number_faults
    (λ n. but_not (nat_lt max_field n.0) frame_length n >>= (λ m. held_from inside m.0 m.1))
    (λ n. then_faults (test_faults (nat_lt max_field n) frame_length n two) (λ m. held_from inside m.0 m.1)
    (λ m. held_faults f m))

-- ---- parts and units

fields_faults : {F : Type 0} (P : Profile F) (kind : ℕ) (X : Range) → Faults (fields_from P kind X)
fields_faults P kind X = if_faults (kind == 1) (mapped_faults (bytes_faults P.size) (λ f. Sum X (P.read f)))
    (if_faults (kind == 2)
    (field_faults (mapped_faults (part_items_faults P (Listing X [])) (λ items. Listing X items)))
    (field_faults (then_faults marks_faults
    (λ marks. part_items_from P (Answer X marks.0 []) marks.1
    >>= (λ items. gives (Answer X marks.0 items.0) items.1))
    (λ marks. mapped_faults (part_items_faults P (Answer X marks [])) (λ items. Answer X marks items)))))

body_faults : {F : Type 0} (P : Profile F) (z : List ℕ) (head : ℕ) → Faults (body_from P z head)
body_faults P z head = then_faults (upper_faults z head)
    (λ y. fields_from P (head / 64) (record { lower = z; upper = y.0 }) y.1)
    (λ y. fields_faults P (head / 64) (record { lower = z; upper = y }))

four : IsUnitFault 4
four = within 4 (omega arith) (omega arith)

skipped_faults : {F : Type 0} (P : Profile F) (x : List ℕ) → Faults (skipped_from P x)
skipped_faults P x = record { each = cases } where
  cases : (bytes : List ℕ) (code : ℕ) → skipped_from P x bytes ≡ Err code → IsUnitFault code
  cases [] code e = absurd cc
  cases (head ∷ bytes) code e =
      (if_faults (nat_lt head 64) (err_faults bad_kind four) (body_faults P x head)).each bytes code e

part_faults : {F : Type 0} (P : Profile F) (z : List ℕ) (head : ℕ) → Faults (part_from P z head)
part_faults P z head = if_faults (nat_lt 63 head) (body_faults P z head)
    (if_faults (head % 8 == 0) (err_faults bad_kind four)
    (then_faults (bound_faults z head) (λ x. skipped_from P x.0 x.1) (λ x. skipped_faults P x)))

end_faults : (head : ℕ) → IsUnitFault (end_fault head)
end_faults head = by_if IsUnitFault (nat_lt 0 (head % 8) || head / 8 % 8 == 0) _ _
    (λ h. within 6 (omega arith) (omega arith))
    (λ h. by_if IsUnitFault (nat_lt 63 head) _ _ (λ h. within 5 (omega arith) (omega arith)) (λ h. four))

came_faults : {F : Type 0} (P : Profile F) (z : Option (List ℕ)) (head : ℕ) → Faults (came_at P z head)
came_faults P None head = err_faults (end_fault head) (end_faults head)
came_faults P (Some z) head = mapped_faults (part_faults P z head) (λ p. Came p)

pub unit_faults : {F : Type 0} (P : Profile F) (z : Option (List ℕ)) → Faults (unit_at P z)
unit_faults {F} P z = record { each = cases } where
  cases : (bytes : List ℕ) (code : ℕ) → unit_at P z bytes ≡ Err code → IsUnitFault code
  cases [] code e = absurd cc
  cases (head ∷ bytes) code e = (if_faults (head == 0) (gives_faults Ended)
      (if_faults (head == 8) (mapped_faults byte_faults (λ code. Failed code))
      (came_faults P z head))).each bytes code e
