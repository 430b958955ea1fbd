-- The compact spelling of what frames say: each unit is written against the bound that the message has come to.
--     shared x y                          the length of the beginning that two byte strings share
--     bound_text kind z y                 the bound y after z, and in its first byte the kind of what it belongs to
--     number_text n                       a number below 2 ^ 28
--     common_length items, entries_text width before items, compact_items lower items
--     compact_marks marks, field_text bytes, compact_body P p
--     unit_text P z e, come_to z e        the text of a unit after z, and the bound that it comes to: a part, the end
--                                         of a message or a fault. z is None where that is the end of everything
--     units_text P z es, message_events M, compact_message P M
--     ClimbsFrom z e, IsUnit P z e, AreUnits P z es, Climbs z M       what has a compact spelling
use Rattle.std.specs.Prelude.{ℕ, ◌+◌, ◌*◌, ◌/◌, ◌%◌, ◌^◌, ◌==◌, List, [], ◌∷◌, ◌++◌, length, map, drop, Bool, Option}
use Rattle.std.specs.Prelude.{Some, None, IsFalse, if◌then◌else◌, nat_lt, nat_eq, bytes_eq, suc, ⊤}
use Rattle.std.specs.List.{list_all}
use Rattle.definitions.specs.Items.{Item, comes_before}
use Rattle.definitions.specs.Messages.{Part, Sum, Listing, Answer, Message, range_of}
use Rattle.definitions.specs.Wire.{Profile, mark_bytes, Event, Came, Ended, Failed, IsPart}

-- ---- bounds

abbrev pub shared : List ℕ → List ℕ → ℕ
shared [] y = 0
shared (a ∷ x) [] = 0
shared (a ∷ x) (b ∷ y) = if nat_eq a b then suc (shared x y) else 0

-- an amount below seven is said in the first byte; where that says seven, the amount has a byte of its own
abbrev pub in_head : ℕ → ℕ
in_head n = if nat_lt n 7 then n else 7

abbrev pub after_head : ℕ → List ℕ
after_head n = if nat_lt n 7 then [] else n ∷ []

-- a kind, how many bytes are shared and how many follow
abbrev pub head_of : ℕ → ℕ → ℕ → ℕ
head_of kind share more = 64 * kind + (8 * in_head share + in_head more)

abbrev pub bound_of : ℕ → ℕ → List ℕ → List ℕ
bound_of kind share rest =
    head_of kind share (length rest) ∷ after_head share ++ (after_head (length rest) ++ rest)

abbrev pub bound_text : ℕ → List ℕ → Option (List ℕ) → List ℕ
bound_text kind z None = 64 * kind ∷ []
bound_text kind z (Some y) = bound_of kind (shared z y) (drop (shared z y) y)

-- ---- fields

-- seven bits a byte, the highest first: 128 is added to each but the last
abbrev pub number_text : ℕ → List ℕ
number_text n =
    if nat_lt n (2 ^ 7) then n ∷ []
    else if nat_lt n (2 ^ 14) then (128 + n / 2 ^ 7) ∷ (n % 128) ∷ []
    else if nat_lt n (2 ^ 21) then (128 + n / 2 ^ 14) ∷ (128 + (n / 2 ^ 7) % 128) ∷ (n % 128) ∷ []
    else (128 + n / 2 ^ 21) ∷ (128 + (n / 2 ^ 14) % 128) ∷ (128 + (n / 2 ^ 7) % 128) ∷ (n % 128) ∷ []

-- the length of all items, or 0 where they have two lengths or more
abbrev pub common_length : List Item → ℕ
common_length [] = 0
common_length (x ∷ xs) = if list_all (λ y. length y == length x) xs then length x else 0

-- how many bytes are shared with what stands before, how many follow if the lengths differ, and these
abbrev pub entry_of : ℕ → ℕ → List ℕ → List ℕ
entry_of width share rest = share ∷ (if width == 0 then length rest ∷ rest else rest)

abbrev pub entry_text : ℕ → List ℕ → Item → List ℕ
entry_text width before x = entry_of width (shared before x) (drop (shared before x) x)

abbrev pub entries_text : ℕ → List ℕ → List Item → List ℕ
entries_text width before [] = []
entries_text width before (x ∷ xs) = entry_text width before x ++ entries_text width x xs

-- the first item is written against the lower bound
abbrev pub compact_items : List ℕ → List Item → List ℕ
compact_items lower [] = []
compact_items lower (x ∷ xs) = common_length (x ∷ xs) ∷ entries_text (common_length (x ∷ xs)) lower (x ∷ xs)

abbrev pub compact_marks : List Bool → List ℕ
compact_marks marks = number_text (length marks) ++ mark_bytes marks

abbrev pub field_text : List ℕ → List ℕ
field_text bytes = number_text (length bytes) ++ bytes

-- ---- units

-- the text of a part that begins where the message has come to
abbrev pub compact_body : {F : Type 0} → Profile F → Part F → List ℕ
compact_body P (Sum X f) = bound_text 1 X.lower X.upper ++ P.text f
compact_body P (Listing X items) = bound_text 2 X.lower X.upper ++ field_text (compact_items X.lower items)
compact_body P (Answer X marks items) =
    bound_text 3 X.lower X.upper ++ field_text (compact_marks marks ++ compact_items X.lower items)

-- from z to the lower bound of the next part
abbrev pub skip_text : List ℕ → List ℕ → List ℕ
skip_text z x = if bytes_eq z x then [] else bound_text 0 z (Some x)

-- no part follows the end of everything
abbrev pub unit_text : {F : Type 0} → Profile F → Option (List ℕ) → Event F → List ℕ
unit_text P (Some z) (Came p) = skip_text z (range_of p).lower ++ compact_body P p
unit_text P None (Came p) = []
unit_text P z Ended = 0 ∷ []
unit_text P z (Failed code) = 8 ∷ code ∷ []

abbrev pub come_to : {F : Type 0} → Option (List ℕ) → Event F → Option (List ℕ)
come_to z (Came p) = (range_of p).upper
come_to z Ended = Some []
come_to z (Failed code) = z

abbrev pub units_text : {F : Type 0} → Profile F → Option (List ℕ) → List (Event F) → List ℕ
units_text P z [] = []
units_text P z (e ∷ es) = unit_text P z e ++ units_text P (come_to z e) es

abbrev pub message_events : {F : Type 0} → Message F → List (Event F)
message_events M = map (λ p. Came p) M ++ Ended ∷ []

abbrev pub compact_message : {F : Type 0} → Profile F → Message F → List ℕ
compact_message P M = units_text P (Some []) (message_events M)

-- ---- what has a compact spelling

-- a part's lower bound is not below z
abbrev pub ClimbsFrom : {F : Type 0} → Option (List ℕ) → Event F → Type 0
ClimbsFrom (Some z) (Came p) = IsFalse (comes_before (range_of p).lower z)
ClimbsFrom None (Came p) = ⊥
ClimbsFrom z Ended = ⊤
ClimbsFrom z (Failed code) = ⊤

abbrev pub IsUnit : {F : Type 0} → Profile F → Option (List ℕ) → Event F → Type 0
IsUnit P z (Came p) = IsPart P p × ClimbsFrom z (Came p)
IsUnit P z Ended = ⊤
IsUnit P z (Failed code) = ⊤

abbrev pub AreUnits : {F : Type 0} → Profile F → Option (List ℕ) → List (Event F) → Type 0
AreUnits P z [] = ⊤
AreUnits P z (e ∷ es) = IsUnit P z e × AreUnits P (come_to z e) es

-- the ranges of a message's parts climb
abbrev pub Climbs : {F : Type 0} → Option (List ℕ) → Message F → Type 0
Climbs z [] = ⊤
Climbs z (p ∷ ps) = ClimbsFrom z (Came p) × Climbs (range_of p).upper ps
