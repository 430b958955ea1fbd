-- The lengths of bodies.
use Rattle.std.proofs.Common.{◌≡◌, ◌+◌, ◌<◌, ◌≤◌, ◌++◌, Bool, true, List, [], ◌∷◌, Some, None, refl, length, arith}
use Rattle.std.proofs.Common.{rules, length-append}
use Rattle.std.specs.Prelude.{sum_by, flat_map, nat_lt}
use Rattle.std.proofs.lemmas.List.Concat.{length-flat_map}
use Rattle.std.proofs.lemmas.List.Sums.{sum_by-cons}
use Rattle.wire_core.specs.declared.body.Body.{Body}
use Rattle.wire_core.specs.declared.body.Body.TheVariants as bodies
use Rattle.wire_core.specs.Bodies.{part_of, items_in, Lists}
use Rattle.definitions.specs.Refusals.{frame_length}
use Rattle.definitions.specs.Faults.{items_fault, part_fault}
use Rattle.definitions.specs.Items.{Item, Range}
use Rattle.definitions.specs.Messages.{Sum, Listing, Answer}
use Rattle.definitions.specs.Wire.{Profile, body, range_text, short_text}
use Rattle.definitions.specs.Wire.{items_text, marks_text, mark_bytes, count_text, max_body}

pub length-items_text : (items : List Item) → length (items_text items) ≡ 4 + sum_by (λ x. length (short_text x)) items
length-items_text items = omega
    (arith, length-append (count_text (length items)) (flat_map short_text items), length-flat_map short_text items)

pub length-marks_text : (marks : List Bool) → length (marks_text marks) ≡ 4 + length (mark_bytes marks)
length-marks_text marks = omega (arith, length-append (count_text (length marks)) (mark_bytes marks))

pub length-listing : {F : Type 0} (P : Profile F) (X : Range) (items : List Item) →
    length (body P (Listing X items)) ≡ 1 + length (range_text X) + (4 + sum_by (λ x. length (short_text x)) items)
length-listing P X items = omega (arith, length-append (range_text X) (items_text items), length-items_text items)

pub length-answer : {F : Type 0} (P : Profile F) (X : Range) (marks : List Bool) (items : List Item) →
    length (body P (Answer X marks items))
    ≡ 1 + length (range_text X) + (4 + length (mark_bytes marks) + 4 + sum_by (λ x. length (short_text x)) items)
length-answer P X marks items =
    omega (
      arith,
      length-append (range_text X) (marks_text marks ++ items_text items),
      length-append (marks_text marks) (items_text items),
      length-marks_text marks,
      length-items_text items,
    )

-- a Sum's
pub length-sum : {F : Type 0} (P : Profile F) (X : Range) (f : F) → length (P.text f) ≡ P.size →
    length (body P (Sum X f)) ≡ 1 + length (range_text X) + P.size
length-sum P X f fixed = omega (arith, length-append (range_text X) (P.text f), fixed)

length-le-texts : (items : List Item) → length items ≤ sum_by (λ x. length (short_text x)) items
length-le-texts [] = omega arith
length-le-texts (x ∷ xs) = omega (arith, sum_by-cons (λ (y : Item). length (short_text y)) x xs, length-le-texts xs)

-- a body is no shorter than the number of its items
pub items-le-body : {F : Type 0} (P : Profile F) (X : Range) (b : Body F) →
    length (items_in b) ≤ length (body P (part_of X b))
items-le-body P X (bodies.Sum f) = omega arith
items-le-body P X (bodies.List items) = omega (arith, length-listing P X items.items, length-le-texts items.items)
items-le-body P X (bodies.Answer marks items) =
    omega (arith, length-answer P X marks items.items, length-le-texts items.items)

-- a body above the limit is the fault, where the items have none
pub length_fault : {F : Type 0} (P : Profile F) (X : Range) (b : Body F) → Lists b →
    items_fault X None (items_in b) ≡ None → max_body < length (body P (part_of X b)) →
    part_fault P (part_of X b) ≡ Some frame_length
length_fault P X (bodies.Sum f) l none long = absurd l
length_fault P X (bodies.List items) l none long =
    let above : nat_lt max_body (length (body P (Listing X items.items))) ≡ true = search (rules, long) in
    rw (none, above) refl
length_fault P X (bodies.Answer marks items) l none long =
    let above : nat_lt max_body (length (body P (Answer X marks items.items))) ≡ true = search (rules, long) in
    rw (none, above) refl

pub ruleset lengths = (length-sum, length-listing, length-answer, items-le-body)
