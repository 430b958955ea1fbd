-- The bytes by which an initiator says which set it speaks of, and which part of it, and what a responder that has such
-- a set makes of them. The part is the items of one range.
--     IsWhich b w                      a set that is cut by b bits has this shard, or this directory
--     selector_text name b w X         the bytes that say it: of all items they are of the first kind, else of the
--                                      second, which ends with both bounds
--     says_part bytes                  a selector begins there that says a part
--     which_in name b bytes            the set of which the name, b and the number speak, if it is this one
--     range_in rest, is_part X         the bounds that bytes begin with; whether a selector may have them
--     selecting name b bytes           what the first bytes of an input say to a responder of this name and b
--     refusal_of r                     the number of the refusal of a peer whose first bytes say this, if it is refused
--     ReadsBack name b bytes r         what was written is read back, whatever follows it
--     ReadsOnly name b bytes r         and nothing else is
--     WantsMore name b bytes r         where at least one byte of such bytes is missing, more must come
use Rattle.std.specs.Prelude.{◌≡◌, ℕ, ◌+◌, ◌<◌, ◌^◌, Bool, true, not, ◌&&◌, ◌||◌, ◌==◌, nat_lt, List, [], ◌∷◌, ◌++◌}
use Rattle.std.specs.Prelude.{length, get_or, take, drop, if◌then◌else◌, Option, Some, None, Result, Ok, Err, ok_or}
use Rattle.std.specs.Int.{w16, to_be_bytes, from_be_bytes}
use Rattle.std.specs.Prelude.{bytes_eq}
use Rattle.definitions.specs.Items.{Range, IsRange, is_below, same_range, whole}
use Rattle.definitions.specs.Wire.{short_text}
use Rattle.shard_core.specs.declared.selector.Which.{Which}
use Rattle.shard_core.specs.declared.selector.Which.TheVariants.{Shard, Directory}
use Rattle.shard_core.specs.declared.selector.Selecting.{Selecting}
use Rattle.shard_core.specs.declared.selector.Selecting.TheVariants.{NoSelector, More, WrongSet, Selected}

-- the first four bytes of the first kind
abbrev pub mark : List ℕ
mark = 0x52 ∷ 0x52 ∷ 0x53 ∷ 0x4E ∷ []

-- and those of the second
abbrev pub part_mark : List ℕ
part_mark = 0x52 ∷ 0x52 ∷ 0x53 ∷ 0x50 ∷ []

-- a selector of the second kind begins there
abbrev pub says_part : List ℕ → Bool
says_part bytes = bytes_eq (take 4 bytes) part_mark

-- there is a directory only where there are two shards or more
abbrev pub IsWhich : ℕ → Which → Type 0
IsWhich b (Shard s) = s < 2 ^ b
IsWhich b Directory = 0 < b

-- ---- what is written

abbrev pub which_number : Which → ℕ
which_number (Shard s) = s
which_number Directory = 0xFFFF

-- what both kinds have after the four bytes: the name after its length, b and the number
abbrev pub which_text : List ℕ → ℕ → Which → List ℕ
which_text name b w = short_text name ++ (b ∷ to_be_bytes w16 (which_number w))

-- the end is an upper bound of no bytes
abbrev pub upper_bytes : Option (List ℕ) → List ℕ
upper_bytes None = []
upper_bytes (Some y) = y

-- each bound after its length
abbrev pub bounds_text : Range → List ℕ
bounds_text X = short_text X.lower ++ short_text (upper_bytes X.upper)

abbrev pub selector_text : List ℕ → ℕ → Which → Range → List ℕ
selector_text name b w X =
    if same_range X whole then mark ++ which_text name b w else part_mark ++ (which_text name b w ++ bounds_text X)

-- ---- what is read

-- one of the two is the beginning of the other
abbrev pub agree : List ℕ → List ℕ → Bool
agree [] ys = true
agree (x ∷ xs) [] = true
agree (x ∷ xs) (y ∷ ys) = (x == y) && agree xs ys

-- what came so far is, after its four bytes, the beginning of this name's and these bits' selectors, or such a selector
-- is its beginning
abbrev pub is_own : List ℕ → ℕ → List ℕ → Bool
is_own name b bytes =
    agree (drop 4 bytes) (length name ∷ [])
    && (agree (drop 5 bytes) name && agree (drop (5 + length name) bytes) (b ∷ []))

-- the shard of this number, or the directory
abbrev pub which_of : ℕ → ℕ → Option Which
which_of b n =
    if nat_lt n (2 ^ b) then Some (Shard n) else if (n == 0xFFFF) && nat_lt 0 b then Some Directory else None

abbrev pub number_at : List ℕ → ℕ → ℕ
number_at bytes i = from_be_bytes w16 (take 2 (drop i bytes))

-- what is to be said of bytes that name no set, or not yet
abbrev pub which_in : List ℕ → ℕ → List ℕ → Result Which Selecting
which_in name b bytes =
    if is_own name b bytes then (
    if nat_lt (length bytes) (8 + length name) then Err More
    else ok_or (which_of b (number_at bytes (6 + length name))) WrongSet
    ) else Err WrongSet

-- the byte at place i, which says a length; as long as it has not come, it stands for none
abbrev pub length_at : List ℕ → ℕ → ℕ
length_at rest i = get_or rest i 0

-- so many bytes after it, and the place after these
abbrev pub short_at : List ℕ → ℕ → List ℕ
short_at rest i = take (length_at rest i) (drop (i + 1) rest)

abbrev pub after_short : List ℕ → ℕ → ℕ
after_short rest i = i + 1 + length_at rest i

abbrev pub upper_of : List ℕ → Option (List ℕ)
upper_of [] = None
upper_of (y ∷ ys) = Some (y ∷ ys)

-- the upper bound comes after the lower one
abbrev pub range_in : List ℕ → Range
range_in rest = record { lower = short_at rest 0; upper = upper_of (short_at rest (after_short rest 0)) }

-- the lower bound is below the upper one, and not all items are meant, which the first kind says
abbrev pub is_part : Range → Bool
is_part X = is_below X.lower X.upper && not (same_range X whole)

abbrev pub part_selected : Which → Range → ℕ → Selecting
part_selected w X used = if is_part X then Selected w X used else WrongSet

-- the bounds after so many bytes
abbrev pub part_in : Which → ℕ → List ℕ → Selecting
part_in w front rest =
    if nat_lt 64 (length_at rest 0) || nat_lt 64 (length_at rest (after_short rest 0)) then WrongSet
    else if nat_lt (length rest) (after_short rest (after_short rest 0)) then More
    else part_selected w (range_in rest) (front + after_short rest (after_short rest 0))

-- the first kind ends with the number
abbrev pub selected : Which → ℕ → List ℕ → Selecting
selected w front bytes = if agree bytes mark then Selected w whole front else part_in w front (drop front bytes)

abbrev pub said_of : Result Which Selecting → (Which → Selecting) → Selecting
said_of (Ok w) say = say w
said_of (Err r) say = r

abbrev pub selecting : List ℕ → ℕ → List ℕ → Selecting
selecting name b bytes =
    if agree bytes mark || agree bytes part_mark
    then said_of (which_in name b bytes) (λ w. selected w (8 + length name) bytes) else NoSelector

-- what ends inside a selector is for the session to refuse
abbrev pub refusal_of : Selecting → Option ℕ
refusal_of NoSelector = Some 1
refusal_of More = None
refusal_of WrongSet = Some 55
refusal_of (Selected w X used) = None

abbrev pub ReadsBack : List ℕ → ℕ → List ℕ → Selecting → Type 0
ReadsBack name b bytes r =
    (w : Which) (X : Range) (later : List ℕ) → IsWhich b w → IsRange X → bytes ≡ selector_text name b w X ++ later →
    r ≡ Selected w X (length (selector_text name b w X))

abbrev pub ReadsOnly : List ℕ → ℕ → List ℕ → Selecting → Type 0
ReadsOnly name b bytes r =
    (w : Which) (X : Range) (used : ℕ) → r ≡ Selected w X used →
    IsWhich b w × IsRange X × (take used bytes ≡ selector_text name b w X)

abbrev pub WantsMore : List ℕ → ℕ → List ℕ → Selecting → Type 0
WantsMore name b bytes r =
    (w : Which) (X : Range) (next : ℕ) (later : List ℕ) → IsWhich b w → IsRange X →
    selector_text name b w X ≡ bytes ++ next ∷ later → r ≡ More
