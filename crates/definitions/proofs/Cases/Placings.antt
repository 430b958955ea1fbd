-- Which messages are placed, and the refusals of others. The fingerprints play no part.
use Rattle.std.specs.Prelude.{◌≡◌, ℕ, true, false, List, [], ◌∷◌, Option, Some, None, refl, codes}
use Rattle.definitions.specs.Items.{Range, Item, whole}
use Rattle.definitions.specs.Messages.{Part, Sum, Listing, Answer, Message}
use Rattle.definitions.specs.Placing.{Refused, next, place_after, place_fault, opening_fault}
use Rattle.definitions.proofs.Cases.Examples.{letters, from_to, below, from}

abbrev pub sum : Range → Part (List Item)
sum X = Sum X []

abbrev pub first : Message (List Item)
first = sum whole ∷ []

-- Sums that are no partition of everything

pub gap_between : place_fault first (sum (below (codes "b")) ∷ sum (from (codes "c")) ∷ []) ≡ Some 22
gap_between = refl

pub gap_between_at_the_second : next (next (place_after first) (sum (below (codes "b")))) (sum (from (codes "c")))
    ≡ Refused 22
gap_between_at_the_second = refl

pub gap_at_the_end : place_fault first (sum (below (codes "b")) ∷ []) ≡ Some 22
gap_at_the_end = refl

pub overlap : place_fault first (sum (below (codes "c")) ∷ sum (from (codes "b")) ∷ []) ≡ Some 22
overlap = refl

pub partition : place_fault first (sum (below (codes "b")) ∷ sum (from (codes "b")) ∷ []) ≡ None
partition = refl

pub a_peer_that_stalls : place_fault first (Sum whole (letters (codes "a")) ∷ []) ≡ Some 21
a_peer_that_stalls = refl

pub an_equal_range : place_fault first [] ≡ None
an_equal_range = refl

-- a first message

pub no_first_part : opening_fault {F = List Item} false [] ≡ Some 20
no_first_part = refl

pub a_list_first : opening_fault {F = List Item} false (Listing whole [] ∷ []) ≡ Some 20
a_list_first = refl

pub half_a_range_first : opening_fault false (sum (below (codes "b")) ∷ []) ≡ Some 20
half_a_range_first = refl

pub two_parts_first : opening_fault false (sum whole ∷ sum whole ∷ []) ≡ Some 20
two_parts_first = refl

pub one_sum_first : opening_fault false first ≡ None
one_sum_first = refl

-- a first message that may cut

abbrev pub cut_fault : Message (List Item) → Option ℕ
cut_fault M = opening_fault true M

pub no_part_to_cut : cut_fault [] ≡ Some 20
no_part_to_cut = refl

pub not_cut : cut_fault first ≡ None
not_cut = refl

pub cut_in_two : cut_fault (sum (below (codes "b")) ∷ sum (from (codes "b")) ∷ []) ≡ None
cut_in_two = refl

pub cut_in_three : cut_fault
    (sum (below (codes "b")) ∷ sum (from_to (codes "b") (codes "d")) ∷ sum (from (codes "d")) ∷ []) ≡ None
cut_in_three = refl

pub not_from_the_start : cut_fault (sum (from (codes "b")) ∷ []) ≡ Some 20
not_from_the_start = refl

pub gap_in_a_cut : cut_fault (sum (below (codes "b")) ∷ sum (from (codes "c")) ∷ []) ≡ Some 22
gap_in_a_cut = refl

pub overlap_in_a_cut : cut_fault (sum (below (codes "c")) ∷ sum (from (codes "b")) ∷ []) ≡ Some 22
overlap_in_a_cut = refl

pub half_a_cut : cut_fault (sum (below (codes "b")) ∷ []) ≡ Some 22
half_a_cut = refl

pub a_list_in_a_cut : cut_fault (sum (below (codes "b")) ∷ Listing (from (codes "b")) [] ∷ []) ≡ Some 22
a_list_in_a_cut = refl

pub more_than_everything : cut_fault (sum whole ∷ sum whole ∷ []) ≡ Some 20
more_than_everything = refl

pub cut_where_none_may_be : opening_fault false (sum (below (codes "b")) ∷ sum (from (codes "b")) ∷ []) ≡ Some 20
cut_where_none_may_be = refl

-- after a list of a and b

abbrev pub listed : Message (List Item)
listed = Listing whole (letters (codes "ab")) ∷ []

pub no_answer : place_fault listed [] ≡ Some 23
no_answer = refl

pub a_list_for_an_answer : place_fault listed (Listing whole [] ∷ []) ≡ Some 23
a_list_for_an_answer = refl

pub one_mark_of_two : place_fault listed (Answer whole (true ∷ []) [] ∷ []) ≡ Some 24
one_mark_of_two = refl

pub a_listed_item : place_fault listed (Answer whole (true ∷ false ∷ []) (letters (codes "b")) ∷ []) ≡ Some 25
a_listed_item = refl

pub an_answer : place_fault listed (Answer whole (true ∷ false ∷ []) (letters (codes "c")) ∷ []) ≡ None
an_answer = refl

pub an_answer_of_another_range : place_fault listed (Answer (below (codes "c")) (true ∷ true ∷ []) [] ∷ []) ≡ Some 20
an_answer_of_another_range = refl

pub an_answer_too_many :
    place_fault listed (Answer whole (true ∷ true ∷ []) [] ∷ Answer whole (true ∷ true ∷ []) [] ∷ []) ≡ Some 20
an_answer_too_many = refl

-- after two Sums

abbrev pub two_sums : Message (List Item)
two_sums = sum (below (codes "b")) ∷ sum (from (codes "b")) ∷ []

pub a_list_is_misplaced : place_fault two_sums (Listing (from (codes "b")) [] ∷ Listing (below (codes "b")) [] ∷ [])
    ≡ Some 20
a_list_is_misplaced = refl

pub both_listed : place_fault two_sums (Listing (below (codes "b")) [] ∷ Listing (from (codes "b")) [] ∷ []) ≡ None
both_listed = refl

pub one_of_two_stalls : place_fault two_sums (sum (below (codes "b")) ∷ []) ≡ Some 21
one_of_two_stalls = refl

pub a_sum_beyond_its_range : place_fault two_sums (sum (below (codes "c")) ∷ []) ≡ Some 20
a_sum_beyond_its_range = refl

pub the_second_cut : place_fault two_sums (sum (from_to (codes "b") (codes "c")) ∷ sum (from (codes "c")) ∷ []) ≡ None
the_second_cut = refl
