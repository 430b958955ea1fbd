-- What it means that the faults of what is made are exact.
--     ItemsFaultIsExact, PartFaultIsExact P      items and parts that are made: no fault where they have a spelling
--     SetsFit P, AnswersFit P                    lists of a set's items, and its answers to lists
--     MarksComeBack, PaddingIsLast               marks and their bytes
--     FeedsJoin P, FeedsRest P                   readings of streams in steps, and what is kept between them
--     HeardAreMessages P, SessionsAreHeard P     what a stream spells
--     LearnedIsPaid P                            items that are learned, and the bytes that they came in
use Rattle.std.specs.Prelude.{◌≡◌, ◌↔◌, ℕ, ◌+◌, ◌*◌, ◌/◌, ◌%◌, ◌^◌, ◌<◌, ◌≤◌, ◌==◌, ◌||◌, Bool, List, ◌++◌, length}
use Rattle.std.specs.Prelude.{None, bytes_eq, slice_index}
use Rattle.std.specs.List.{AllByRecursion}
use Rattle.definitions.specs.Items.{IsBytes, Item, IsItem, Range, IsRange}
use Rattle.definitions.specs.Sets.{IsSet, items_in}
use Rattle.definitions.specs.Messages.{Part, Sum, Listing, Answer, Message}
use Rattle.definitions.specs.Replies.{answer_to}
use Rattle.definitions.specs.Talks.{Knowledge, knows}
use Rattle.definitions.specs.Wire.{Profile, AreItemsOf, IsFingerprint, IsPart, IsMessage, session_text, mark_bytes}
use Rattle.definitions.specs.Wire.{mark_bytes_for, max_body}
use Rattle.definitions.specs.Faults.{items_fault, part_fault}
use Rattle.definitions.specs.Reading.{marks_in}
use Rattle.definitions.specs.Engines.{messages_in}
use Rattle.definitions.specs.Streams.{Standing, Fed, stays, feed}

-- so few items that their number can be written
abbrev pub ItemsFaultIsExact : Type 0
ItemsFaultIsExact = (X : Range) (items : List Item) → AllByRecursion IsItem items → length items < 2 ^ 32 →
    (items_fault X None items ≡ None) ↔ AreItemsOf X items

-- what a part is made of: its items may still fall or lie outside, or be too many
abbrev pub IsMadeOf : {F : Type 0} → Profile F → Part F → Type 0
IsMadeOf P (Sum X f) = IsRange X × IsFingerprint P f
IsMadeOf P (Listing X items) = IsRange X × AllByRecursion IsItem items
IsMadeOf P (Answer X marks items) = IsRange X × AllByRecursion IsItem items

abbrev pub PartFaultIsExact : {F : Type 0} → Profile F → Type 0
PartFaultIsExact {F} P = (p : Part F) → IsMadeOf P p → (part_fault P p ≡ None) ↔ IsPart P p

abbrev pub MarksComeBack : Type 0
MarksComeBack = (marks : List Bool) → marks_in (length marks) (mark_bytes marks) ≡ marks

-- of so many bytes as hold n marks, only the last can have a bit that is not used
abbrev pub PaddingIsLast : Type 0
PaddingIsLast = (n : ℕ) (held : List ℕ) → IsBytes held → length held ≡ mark_bytes_for n →
    bytes_eq held (mark_bytes (marks_in n held)) ≡ (n % 8 == 0 || slice_index held (n / 8) / 2 ^ (n % 8) == 0)

-- one stream after another
abbrev pub joined : {F : Type 0} → Fed F → Fed F → Fed F
joined a b = record { events = a.events ++ b.events; to = b.to; kept = b.kept }

-- a stream may come in pieces: each is read after what was kept
abbrev pub FeedsJoin : {F : Type 0} → Profile F → Type 0
FeedsJoin {F} P = (from : Standing) (front back : List ℕ) → IsBytes front → IsBytes back →
    feed P from (front ++ back) ≡ (let a = feed P from front in joined a (feed P a.to (a.kept ++ back)))

abbrev pub IsEndOf : List ℕ → List ℕ → Type 0
IsEndOf bytes kept = (front : List ℕ) × (bytes ≡ front ++ kept)

-- what is kept is the end of what came, has no event or fault, and is no whole frame
abbrev pub FeedsRest : {F : Type 0} → Profile F → Type 0
FeedsRest {F} P = (from : Standing) (bytes : List ℕ) → IsBytes bytes → (let fed = feed P from bytes in
    (feed P fed.to fed.kept ≡ stays fed.to fed.kept) × IsEndOf bytes fed.kept × (length fed.kept < 4 + max_body))

-- the items that a set has in a range fit a frame
abbrev pub SetsFit : {F : Type 0} → Profile F → Type 0
SetsFit P = (A : List Item) (X : Range) → IsSet A → AllByRecursion IsItem A → length A ≤ 65536 → IsRange X →
    IsPart P (Listing X (items_in A X))

-- what a set answers to a list fits a frame
abbrev pub AnswersFit : {F : Type 0} → Profile F → Type 0
AnswersFit P = (A : List Item) (X : Range) (listed : List Item) → IsSet A → AllByRecursion IsItem A → length A ≤ 65536 →
    IsPart P (Listing X listed) → IsPart P (answer_to A X listed)

-- the whole messages of a stream have a spelling
abbrev pub HeardAreMessages : {F : Type 0} → Profile F → Type 0
HeardAreMessages P = (bytes : List ℕ) → IsBytes bytes → AllByRecursion (IsMessage P) (messages_in P bytes)

-- a session's text spells its messages
abbrev pub SessionsAreHeard : {F : Type 0} → Profile F → Type 0
SessionsAreHeard {F} P =
    (Ms : List (Message F)) → AllByRecursion (IsMessage P) Ms → messages_in P (session_text P Ms) ≡ Ms

-- each item that is learned from messages took two bytes of them or more
abbrev pub LearnedIsPaid : {F : Type 0} → Profile F → Type 0
LearnedIsPaid {F} P = (A : List Item) (owns Ms : List (Message F)) → AllByRecursion (IsMessage P) Ms →
    2 * length (Knowledge.theirs (knows A owns Ms)) ≤ length (session_text P Ms)
