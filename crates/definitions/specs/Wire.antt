-- How messages are spelled in bytes.
--     Profile F, two_lane_profile, counted_profile, compact_profile      what differs between profiles
--     part_text P p, message_text P M, session_text P Ms, fault_text code      the one spelling
--     IsPart P p, IsMessage P M, Spells P M bytes       what has a spelling
--     Event F, event_text P e                           what a frame's body says: a part, the end of a message or a
--                                                       fault
--     Input, HasEvent P input e, Says P input bytes e   which events may come where one message is read, and which in a
--                                                       stream
--     IsProfile P                                       four bytes of hello, and each fingerprint's bytes have one
--                                                       reading
use Rattle.std.specs.Prelude.{◌≡◌, ℕ, ◌+◌, ◌*◌, ◌/◌, ◌<◌, ◌≤◌, ◌^◌, Bool, List, [], ◌∷◌, ◌++◌, length, map, take, drop}
use Rattle.std.specs.Prelude.{flat_map, Option, Some, None, IsTrue, if◌then◌else◌, ⊤}
use Rattle.std.specs.List.{AllByRecursion, range_with_len}
use Rattle.std.specs.Int.{w32, w128, to_be_bytes, from_be_bytes}
use Rattle.definitions.specs.Items.{IsBytes, Item, IsItem, Range, IsRange, contains}
use Rattle.definitions.specs.Sets.{IsSet}
use Rattle.definitions.specs.Fingerprints.{Lanes, Counted, Print, counted_text}
pub use Rattle.definitions.specs.Fingerprints.{lanes_text}
use Rattle.definitions.specs.Messages.{Part, Sum, Listing, Answer, Message}

-- the first four bytes of each side, and how a fingerprint is spelled
pub record Profile (F : Type 0) : Type 0 where
  pub hello : List ℕ
  -- the number of bytes of a fingerprint
  pub size : ℕ
  pub text : F → List ℕ
  pub read : List ℕ → F

-- four bytes of hello; and a fingerprint of some bytes, where what is read from them is spelled by them
pub record IsProfile {F : Type 0} (P : Profile F) : Type 0 where
  pub hello : length P.hello ≡ 4
  pub hello_bytes : IsBytes P.hello
  pub size : 0 < P.size
  -- so the body of a Sum is never too long
  pub small : P.size ≤ 1024
  pub back : (bytes : List ℕ) → IsBytes bytes → length bytes ≡ P.size → P.text (P.read bytes) ≡ bytes

abbrev pub lanes_read : List ℕ → Lanes
lanes_read bytes = record { first = from_be_bytes w128 (take 16 bytes); second = from_be_bytes w128 (drop 16 bytes) }

-- profile 1
abbrev pub two_lane_profile : Profile Lanes
two_lane_profile = record { hello = 0x52 ∷ 0x52 ∷ 0x53 ∷ 0x31 ∷ []; size = 32; text = lanes_text; read = lanes_read }

-- profile 2
abbrev pub counted_profile : Profile Counted
counted_profile = record {
  hello = 0x52 ∷ 0x52 ∷ 0x53 ∷ 0x32 ∷ [];
  size = 36;
  text = counted_text;
  read = λ bytes. record { count = from_be_bytes w32 (take 4 bytes); lanes = lanes_read (drop 4 bytes) };
}

-- the compact profile
abbrev pub compact_profile : Profile Print
compact_profile = record { hello = 0x52 ∷ 0x52 ∷ 0x53 ∷ 0x34 ∷ []; size = 12; text = λ f. f; read = λ bytes. bytes }

-- ---- fields

-- a length byte and that many bytes: an item, a lower bound
abbrev pub short_text : List ℕ → List ℕ
short_text bytes = length bytes ∷ bytes

abbrev pub upper_text : Option (List ℕ) → List ℕ
upper_text None = 0xFF ∷ []
upper_text (Some y) = short_text y

abbrev pub range_text : Range → List ℕ
range_text X = short_text X.lower ++ upper_text X.upper

abbrev pub count_text : ℕ → List ℕ
count_text n = to_be_bytes w32 n

abbrev pub items_text : List Item → List ℕ
items_text items = count_text (length items) ++ flat_map short_text items

-- the byte of eight marks or fewer: the first counts 1, the next 2, and so on
abbrev pub mark_byte : List Bool → ℕ
mark_byte [] = 0
mark_byte (mark ∷ marks) = (if mark then 1 else 0) + 2 * mark_byte marks

-- the bytes that hold so many marks at 8 to a byte
abbrev pub mark_bytes_for : ℕ → ℕ
mark_bytes_for n = (n + 7) / 8

abbrev pub mark_bytes : List Bool → List ℕ
mark_bytes marks = map (λ j. mark_byte (take 8 (drop (8 * j) marks))) (range_with_len 0 (mark_bytes_for (length marks)))

abbrev pub marks_text : List Bool → List ℕ
marks_text marks = count_text (length marks) ++ mark_bytes marks

-- ---- frames

abbrev pub body : {F : Type 0} → Profile F → Part F → List ℕ
body P (Sum X f) = 1 ∷ range_text X ++ P.text f
body P (Listing X items) = 2 ∷ range_text X ++ items_text items
body P (Answer X marks items) = 3 ∷ range_text X ++ (marks_text marks ++ items_text items)

abbrev pub frame : List ℕ → List ℕ
frame bytes = to_be_bytes w32 (length bytes) ++ bytes

abbrev pub part_text : {F : Type 0} → Profile F → Part F → List ℕ
part_text P p = frame (body P p)

abbrev pub end_text : List ℕ
end_text = frame (4 ∷ [])

abbrev pub fault_text : ℕ → List ℕ
fault_text code = frame (5 ∷ code ∷ [])

abbrev pub message_text : {F : Type 0} → Profile F → Message F → List ℕ
message_text P M = flat_map (part_text P) M ++ end_text

-- a hello and messages
abbrev pub session_text : {F : Type 0} → Profile F → List (Message F) → List ℕ
session_text P Ms = P.hello ++ flat_map (message_text P) Ms

-- ---- what has a spelling

abbrev pub max_body : ℕ
max_body = 8388608

abbrev pub max_parts : ℕ
max_parts = 131072

-- the items of a part rise strictly and lie in its range
pub record AreItemsOf (X : Range) (items : List Item) : Type 0 where
  pub count : length items < 2 ^ 32
  pub each : AllByRecursion IsItem items
  pub rises : IsSet items
  pub inside : AllByRecursion (λ x. IsTrue (contains X x)) items

-- the fingerprint is what its text says
abbrev pub IsFingerprint : {F : Type 0} → Profile F → F → Type 0
IsFingerprint P f = (length (P.text f) ≡ P.size) × (P.read (P.text f) ≡ f)

abbrev pub HasFields : {F : Type 0} → Profile F → Part F → Type 0
HasFields P (Sum X f) = IsRange X × IsFingerprint P f
HasFields P (Listing X items) = IsRange X × AreItemsOf X items
HasFields P (Answer X marks items) = IsRange X × (length marks < 2 ^ 32) × AreItemsOf X items

pub record IsPart {F : Type 0} (P : Profile F) (p : Part F) : Type 0 where
  pub fields : HasFields P p
  pub short : length (body P p) ≤ max_body

pub record IsMessage {F : Type 0} (P : Profile F) (M : Message F) : Type 0 where
  pub count : length M ≤ max_parts
  pub parts : AllByRecursion (IsPart P) M

-- the bytes are the spelling of the message
abbrev pub Spells : {F : Type 0} → Profile F → Message F → List ℕ → Type 0
Spells P M bytes = IsMessage P M × (bytes ≡ message_text P M)

-- ---- what a frame says

-- what a frame's body says
pub data Event (F : Type 0) : Type 0 where
  Came : (part : Part F) → Event F
  -- the message's parts have all come
  Ended : Event F
  -- the other side refused, with this number
  Failed : (code : ℕ) → Event F

abbrev pub event_text : {F : Type 0} → Profile F → Event F → List ℕ
event_text P (Came p) = body P p
event_text P Ended = 4 ∷ []
event_text P (Failed code) = 5 ∷ code ∷ []

-- what is read
pub data Input : Type 0 where
  -- one message and nothing else
  One_message : Input
  -- a stream, in which a fault frame may come
  Stream : Input

abbrev pub greatest_kind : Input → ℕ
greatest_kind One_message = 4
greatest_kind Stream = 5

-- the event has a text, and may come there
abbrev pub HasEvent : {F : Type 0} → Profile F → Input → Event F → Type 0
HasEvent P input (Came p) = HasFields P p
HasEvent P input Ended = ⊤
HasEvent P One_message (Failed code) = ⊥
HasEvent P Stream (Failed code) = code < 256

-- the body is this event's
abbrev pub Says : {F : Type 0} → Profile F → Input → List ℕ → Event F → Type 0
Says P input bytes e = HasEvent P input e × (bytes ≡ event_text P e)

-- after so many parts of its message the event may come: there is room for one part more
abbrev pub Counts : {F : Type 0} → ℕ → Event F → Type 0
Counts parts (Came p) = parts < max_parts
Counts parts Ended = ⊤
Counts parts (Failed code) = ⊤
