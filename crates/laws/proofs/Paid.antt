-- What is learned takes bytes.
-- An item is a byte or more, and its text has its length before it: two bytes or more. What a List teaches of the
-- other side are some of its items, and what an Answer teaches are its items. So no part teaches more than half its
-- bytes, and no messages more than half of theirs.
-- docs/LAWS.md: What is learned takes bytes.
use Rattle.std.proofs.Common.{List, length, arith, ◌≤◌, not, [], ◌∷◌, ◌*◌, length-append}
use Rattle.std.specs.Prelude.{flat_map}
use Rattle.definitions.specs.Sets.{has, difference}
use Rattle.definitions.specs.Messages.{Sum, Listing, Answer, Message}
use Rattle.definitions.specs.Talks.{Knowledge, theirs_by, knows}
use Rattle.definitions.specs.Wire.{IsPart, IsMessage, part_text, message_text, end_text}
use Rattle.definitions.proofs.Words.{AllByRecursion, Item, IsItem, Profile, Part, short_text}
use Rattle.definitions.proofs.Words.{count_text, items_text}
use Rattle.definitions.proofs.Lemmas.{length-append, length-filter, count_by-le-length}
use Rattle.laws.specs.Parts.{LearnedIsPaid}

-- ---- parts

two_each : (xs : List Item) → AllByRecursion IsItem xs → 2 * length xs ≤ length (flat_map short_text xs)
two_each [] h = omega arith
two_each (x ∷ xs) h = grind (arith, two_each xs h.1, length-append)

items_paid : (xs : List Item) → AllByRecursion IsItem xs → 2 * length xs ≤ length (items_text xs)
items_paid xs h = let a = length-append (count_text (length xs)) (flat_map short_text xs) in let i = two_each xs h in
    omega arith

kept_le : (listed A : List Item) → length (difference listed A) ≤ length listed
kept_le listed A = omega (
  arith,
  length-filter (λ x. not (has A x)) listed,
  count_by-le-length (λ x. not (has A x)) listed,
)

part_paid : {F : Type 0} (P : Profile F) (A : List Item) (p : Part F) → IsPart P p →
    2 * length (theirs_by A p) ≤ length (part_text P p)
part_paid P A (Sum X f) h = omega arith
part_paid P A (Listing X items) h = grind (arith, kept_le items A, items_paid items h.fields.1.each, length-append)
part_paid P A (Answer X marks items) h = grind (arith, items_paid items h.fields.2.each, length-append)

-- ---- messages

parts_paid : {F : Type 0} (P : Profile F) (A : List Item) (M : Message F) → AllByRecursion (IsPart P) M →
    2 * length (flat_map (theirs_by A) M) ≤ length (flat_map (part_text P) M)
parts_paid P A [] h = omega arith
parts_paid P A (p ∷ ps) h = omega (
  arith,
  part_paid P A p h.0,
  parts_paid P A ps h.1,
  length-append (theirs_by A p) (flat_map (theirs_by A) ps),
  length-append (part_text P p) (flat_map (part_text P) ps),
)

message_paid : {F : Type 0} (P : Profile F) (A : List Item) (M : Message F) → IsMessage P M →
    2 * length (flat_map (theirs_by A) M) ≤ length (message_text P M)
message_paid P A M h = omega (
  arith,
  parts_paid P A M h.parts,
  length-append (flat_map (part_text P) M) end_text,
)

texts_paid : {F : Type 0} (P : Profile F) (A : List Item) (owns Ms : List (Message F)) →
    AllByRecursion (IsMessage P) Ms →
    2 * length (Knowledge.theirs (knows A owns Ms)) ≤ length (flat_map (message_text P) Ms)
texts_paid P A [] Ms h = omega arith
texts_paid P A (own ∷ owns) [] h = omega arith
texts_paid P A (own ∷ owns) (M ∷ Ms) h = omega (
  arith,
  message_paid P A M h.0,
  texts_paid P A owns Ms h.1,
  length-append (flat_map (theirs_by A) M) (Knowledge.theirs (knows A owns Ms)),
  length-append (message_text P M) (flat_map (message_text P) Ms),
)

pub learned_paid : {F : Type 0} (P : Profile F) → LearnedIsPaid P
learned_paid P A owns Ms h = omega (
  arith,
  texts_paid P A owns Ms h,
  length-append P.hello (flat_map (message_text P) Ms),
)
