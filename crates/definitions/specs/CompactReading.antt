-- The compact spelling read from left to right: a value and the bytes after it; None where it has not all come; or the
-- first fault. The inverse of Compact, by computation.
--     Reading A, r >>= f                       what is read, and then what follows
--     byte_from, bytes_from, amount_at         bytes and small amounts
--     goes_above, bound_at, upper_from         bounds
--     number_from, entry_from, entries_from, items_from, marks_from, field_from       fields
--     sum_from, listing_in, answer_in, body_from, part_from        parts
--     unit_at P z bytes                        the unit that stands next
use Rattle.std.specs.Prelude.{ℕ, zero, suc, ◌+◌, ◌*◌, ◌-◌, ◌/◌, ◌%◌, Bool, true, false, not, ◌&&◌, ◌||◌, ◌==◌, List, []}
use Rattle.std.specs.Prelude.{◌∷◌, ◌++◌, length, take, drop, nat_lt, if◌then◌else◌, Option, Some, None, Result, Ok, Err}
use Rattle.std.specs.Prelude.{bytes_eq}
use Rattle.definitions.specs.Items.{Item, Range, is_below}
use Rattle.definitions.specs.Messages.{Part, Sum, Listing, Answer, range_of}
use Rattle.definitions.specs.Wire.{Profile, short_text, body, mark_bytes, mark_bytes_for, max_body, Event, Came, Ended}
use Rattle.definitions.specs.Wire.{Failed}
use Rattle.definitions.specs.Refusals.{frame_length, bad_kind, bad_bound, empty_range, item_length, item_order}
use Rattle.definitions.specs.Refusals.{item_outside, mark_padding}
use Rattle.definitions.specs.Reading.{unless, is_item_length, marks_in}
use Rattle.definitions.specs.Compact.{common_length}

abbrev pub Reading : Type 0 → Type 0
Reading A = Result (Option (A × List ℕ)) ℕ

infixl 10 ◌>>=◌
abbrev pub ◌>>=◌ : {A B : Type 0} → Reading A → (A × List ℕ → Reading B) → Reading B
(Ok (Some x)) >>= f = f x
(Ok None) >>= f = Ok None
(Err code) >>= f = Err code

-- the value, and then these bytes
abbrev pub gives : {A : Type 0} → A → List ℕ → Reading A
gives x bytes = Ok (Some (x, bytes))

-- what was read, unless the test finds this fault
abbrev pub but_not : {A : Type 0} → Bool → ℕ → A × List ℕ → Reading A
but_not wrong code x = unless wrong code (Some x)

abbrev pub byte_from : List ℕ → Reading ℕ
byte_from [] = Ok None
byte_from (b ∷ bytes) = gives b bytes

abbrev pub bytes_from : ℕ → List ℕ → Reading (List ℕ)
bytes_from n bytes = if nat_lt (length bytes) n then Ok None else gives (take n bytes) (drop n bytes)

-- ---- bounds

-- at least seven, in a byte of its own
abbrev pub large_amount_at : List ℕ → Reading ℕ
large_amount_at bytes = do
  n ← byte_from bytes
  but_not (nat_lt n.0 7) bad_bound n

abbrev pub amount_at : ℕ → List ℕ → Reading ℕ
amount_at n bytes = if nat_lt n 7 then gives n bytes else large_amount_at bytes

-- where z has bytes left, the first byte of the rest is above the first of these
abbrev pub goes_above : List ℕ → List ℕ → Bool
goes_above [] rest = true
goes_above (b ∷ left) [] = false
goes_above (b ∷ left) (c ∷ rest) = nat_lt b c

abbrev pub share_at : List ℕ → ℕ → List ℕ → Reading ℕ
share_at z head bytes = do
  s ← amount_at (head / 8 % 8) bytes
  but_not (nat_lt 63 s.0 || nat_lt (length z) s.0) bad_bound s

abbrev pub rest_length_at : ℕ → ℕ → List ℕ → Reading ℕ
rest_length_at s head bytes = do
  l ← amount_at (head % 8) bytes
  but_not (nat_lt 64 (s + l.0)) bad_bound l

abbrev pub rest_at : List ℕ → ℕ → ℕ → List ℕ → Reading (List ℕ)
rest_at z s l bytes = do
  rest ← bytes_from l bytes
  but_not (not (goes_above (drop s z) rest.0)) empty_range (take s z ++ rest.0, rest.1)

-- a bound after z that is an item: what follows its head
abbrev pub bound_at : List ℕ → ℕ → List ℕ → Reading (List ℕ)
bound_at z head bytes = do
  s ← share_at z head bytes
  l ← rest_length_at s.0 head s.1
  rest_at z s.0 l.0 l.1

abbrev pub some_bound : Reading (List ℕ) → Reading (Option (List ℕ))
some_bound read = do
  y ← read
  gives (Some y.0) y.1

-- a head with no rest is the end of everything, and shares nothing
abbrev pub upper_from : List ℕ → ℕ → List ℕ → Reading (Option (List ℕ))
upper_from z head bytes =
    if head % 8 == 0 then but_not (not (head / 8 % 8 == 0)) bad_bound (None, bytes)
    else some_bound (bound_at z head bytes)

-- ---- fields

-- the bytes after the first ones, which say n; so many more may come
abbrev pub digits_from : ℕ → ℕ → List ℕ → Reading ℕ
digits_from zero n bytes = Err frame_length
digits_from (suc places) n [] = Ok None
digits_from (suc places) n (b ∷ bytes) =
    if nat_lt b 128 then gives (128 * n + b) bytes else digits_from places (128 * n + b % 128) bytes

-- at most four bytes, of which the first says something
abbrev pub number_from : List ℕ → Reading ℕ
number_from [] = Ok None
number_from (b ∷ bytes) = if b == 128 then Err frame_length else digits_from 4 0 (b ∷ bytes)

-- the first item may be the lower bound
abbrev pub is_next : Bool → List ℕ → ℕ → List ℕ → Bool
is_next first before s rest = (first || nat_lt 0 (length rest)) && goes_above (drop s before) rest

abbrev pub entry_share_from : List ℕ → List ℕ → Reading ℕ
entry_share_from before bytes = do
  s ← byte_from bytes
  but_not (nat_lt (length before) s.0) item_length s

abbrev pub own_length_from : ℕ → List ℕ → Reading ℕ
own_length_from s bytes = do
  l ← byte_from bytes
  but_not (not (is_item_length (s + l.0))) item_length l

abbrev pub entry_length_from : ℕ → ℕ → List ℕ → Reading ℕ
entry_length_from width s bytes =
    if width == 0 then own_length_from s bytes else but_not (nat_lt width s) item_length (width - s, bytes)

abbrev pub entry_rest_from : Bool → List ℕ → ℕ → ℕ → List ℕ → Reading Item
entry_rest_from first before s l bytes = do
  rest ← bytes_from l bytes
  but_not (not (is_next first before s rest.0)) item_order (take s before ++ rest.0, rest.1)

-- an item after the one before it, or after the lower bound
abbrev pub entry_from : ℕ → Bool → List ℕ → List ℕ → Reading Item
entry_from width first before bytes = do
  s ← entry_share_from before bytes
  l ← entry_length_from width s.0 s.1
  entry_rest_from first before s.0 l.0 l.1

-- it is in the range, and the body of its frame has room for it
abbrev pub item_from : ℕ → Option (List ℕ) → ℕ → Bool → List ℕ → List ℕ → Reading Item
item_from width y room first before bytes = do
  x ← entry_from width first before bytes
  within ← but_not (not (is_below x.0 y)) item_outside x
  but_not (nat_lt room (length (short_text within.0))) frame_length within

-- what follows an item, if anything does
abbrev pub others_from : (List ℕ → Reading (List Item)) → List ℕ → Reading (List Item)
others_from more [] = gives [] []
others_from more (b ∷ bytes) = more (b ∷ bytes)

-- one item or more, and nothing else; fuel is at least the number of bytes
abbrev pub entries_from : ℕ → ℕ → Option (List ℕ) → ℕ → Bool → List ℕ → List ℕ → Reading (List Item)
entries_from zero width y room first before bytes = Ok None
entries_from (suc fuel) width y room first before bytes = do
  x ← item_from width y room first before bytes
  xs ← others_from (entries_from fuel width y (room - length (short_text x.0)) false x.0) x.1
  gives (x.0 ∷ xs.0) xs.1

abbrev pub wide_items_from : ℕ → Range → ℕ → List ℕ → Reading (List Item)
wide_items_from width X room bytes = do
  xs ← entries_from (length bytes) width X.upper room true X.lower bytes
  but_not (not (common_length xs.0 == width)) item_length xs

-- all items, where the body of the frame has so much room for them
abbrev pub items_from : Range → ℕ → List ℕ → Reading (List Item)
items_from X room [] = gives [] []
items_from X room (width ∷ bytes) = if nat_lt 64 width then Err item_length else wide_items_from width X room bytes

-- all items of a part that has none yet
abbrev pub part_items_from : {F : Type 0} → Profile F → Part F → List ℕ → Reading (List Item)
part_items_from P p bytes =
    if nat_lt max_body (length (body P p)) then Err frame_length
    else items_from (range_of p) (max_body - length (body P p)) bytes

abbrev pub marks_of : ℕ → List ℕ → Reading (List Bool)
marks_of n bytes = do
  held ← bytes_from (mark_bytes_for n) bytes
  but_not (not (bytes_eq held.0 (mark_bytes (marks_in n held.0)))) mark_padding (marks_in n held.0, held.1)

abbrev pub marks_from : List ℕ → Reading (List Bool)
marks_from bytes = do
  n ← number_from bytes
  marks_of n.0 n.1

abbrev pub max_field : ℕ
max_field = max_body + 256

-- a field has all come: what it should hold ends with it
abbrev pub all_of : {A : Type 0} → Reading A → List ℕ → Reading A
all_of (Ok (Some x)) bytes = gives x.0 bytes
all_of (Ok None) bytes = Err frame_length
all_of (Err code) bytes = Err code

abbrev pub held_from : {A : Type 0} → (List ℕ → Reading A) → ℕ → List ℕ → Reading A
held_from inside n bytes = do
  field ← bytes_from n bytes
  all_of (inside field.0) field.1

abbrev pub field_from : {A : Type 0} → (List ℕ → Reading A) → List ℕ → Reading A
field_from inside bytes = do
  n ← number_from bytes
  m ← but_not (nat_lt max_field n.0) frame_length n
  held_from inside m.0 m.1

-- ---- parts

abbrev pub sum_from : {F : Type 0} → Profile F → Range → List ℕ → Reading (Part F)
sum_from P X bytes = do
  f ← bytes_from P.size bytes
  gives (Sum X (P.read f.0)) f.1

abbrev pub listing_in : {F : Type 0} → Profile F → Range → List ℕ → Reading (Part F)
listing_in P X bytes = do
  items ← part_items_from P (Listing X []) bytes
  gives (Listing X items.0) items.1

abbrev pub answer_in : {F : Type 0} → Profile F → Range → List ℕ → Reading (Part F)
answer_in P X bytes = do
  marks ← marks_from bytes
  items ← part_items_from P (Answer X marks.0 []) marks.1
  gives (Answer X marks.0 items.0) items.1

-- by the kind
abbrev pub fields_from : {F : Type 0} → Profile F → ℕ → Range → List ℕ → Reading (Part F)
fields_from P kind X bytes =
    if kind == 1 then sum_from P X bytes
    else if kind == 2 then field_from (listing_in P X) bytes
    else field_from (answer_in P X) bytes

-- a part that begins at z: what follows its head
abbrev pub body_from : {F : Type 0} → Profile F → List ℕ → ℕ → List ℕ → Reading (Part F)
body_from P z head bytes = do
  y ← upper_from z head bytes
  fields_from P (head / 64) (record { lower = z; upper = y.0 }) y.1

-- after a skip only a part may stand
abbrev pub skipped_from : {F : Type 0} → Profile F → List ℕ → List ℕ → Reading (Part F)
skipped_from P x [] = Ok None
skipped_from P x (head ∷ bytes) = if nat_lt head 64 then Err bad_kind else body_from P x head bytes

abbrev pub skip_from : {F : Type 0} → Profile F → List ℕ → ℕ → List ℕ → Reading (Part F)
skip_from P z head bytes = do
  x ← bound_at z head bytes
  skipped_from P x.0 x.1

-- a part after z: what follows its first byte, which is not 0 and not 8
abbrev pub part_from : {F : Type 0} → Profile F → List ℕ → ℕ → List ℕ → Reading (Part F)
part_from P z head bytes =
    if nat_lt 63 head then body_from P z head bytes
    else if head % 8 == 0 then Err bad_kind
    else skip_from P z head bytes

-- ---- units

abbrev pub came_from : {F : Type 0} → Reading (Part F) → Reading (Event F)
came_from read = do
  p ← read
  gives (Came p.0) p.1

abbrev pub failed_from : {F : Type 0} → List ℕ → Reading (Event F)
failed_from bytes = do
  code ← byte_from bytes
  gives (Failed code.0) code.1

-- why no part has this head after the end of everything
abbrev pub end_fault : ℕ → ℕ
end_fault head =
    if nat_lt 0 (head % 8) || head / 8 % 8 == 0 then empty_range
    else if nat_lt 63 head then bad_bound
    else bad_kind

abbrev pub came_at : {F : Type 0} → Profile F → Option (List ℕ) → ℕ → List ℕ → Reading (Event F)
came_at P None head bytes = Err (end_fault head)
came_at P (Some z) head bytes = came_from (part_from P z head bytes)

abbrev pub unit_at : {F : Type 0} → Profile F → Option (List ℕ) → List ℕ → Reading (Event F)
unit_at P z [] = Ok None
unit_at P z (head ∷ bytes) =
    if head == 0 then gives Ended bytes
    else if head == 8 then failed_from bytes
    else came_at P z head bytes
