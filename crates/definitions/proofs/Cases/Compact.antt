-- The compact spelling of messages, and bytes that spell none. The fingerprints are twelve raw bytes.
use Rattle.std.specs.Prelude.{◌≡◌, ℕ, true, false, List, [], ◌∷◌, ◌++◌, replicate, codes, Option, Some, None, refl}
use Rattle.definitions.specs.Messages.{Message, Sum, Listing, Answer}
use Rattle.definitions.specs.Wire.{Profile, Event, message_text}
use Rattle.definitions.specs.Compact.{compact_message, message_events}
use Rattle.definitions.specs.Packing.{unpack, frames_of, pack}

abbrev twelve_bytes : Profile (List ℕ)
twelve_bytes = record { hello = 0x52 ∷ 0x52 ∷ 0x53 ∷ 0x34 ∷ []; size = 12; text = λ f. f; read = λ bytes. bytes }

abbrev zeros : ℕ → List ℕ
zeros n = replicate n 0

abbrev spelling : Message (List ℕ) → List ℕ
spelling M = compact_message twelve_bytes M

abbrev events_in : List ℕ → List (Event (List ℕ))
events_in bytes = (unpack twelve_bytes (Some []) bytes).events

abbrev fault_in : List ℕ → Option ℕ
fault_in bytes = (unpack twelve_bytes (Some []) bytes).fault

abbrev kept_in : List ℕ → List ℕ
kept_in bytes = (unpack twelve_bytes (Some []) bytes).kept

-- ---- a session: both have apple, cherry, grape and melon, and the responder has citron besides

-- the initiator's Sums up to g and from there on
abbrev cut : Message (List ℕ)
cut =
    Sum (record { lower = []; upper = Some (codes "g") }) (0x33 ∷ 0x35 ∷ 0xE7 ∷ 0xD0 ∷ 0x63 ∷ 0x04 ∷ 0xE8 ∷ 0x7A ∷ 0x3E
    ∷ 0x9B ∷ 0xAB ∷ 0x63 ∷ []) ∷ Sum (record { lower = codes "g"; upper = None }) (0x2E ∷ 0x46 ∷ 0xE6 ∷ 0x23 ∷ 0xE0
    ∷ 0x05 ∷ 0xB3 ∷ 0x82 ∷ 0xF4 ∷ 0xA1 ∷ 0xB9 ∷ 0x7D ∷ []) ∷ []

abbrev cut_text : List ℕ
cut_text =
    0x41 ∷ 0x67 ∷ 0x33 ∷ 0x35 ∷ 0xE7 ∷ 0xD0 ∷ 0x63 ∷ 0x04 ∷ 0xE8 ∷ 0x7A ∷ 0x3E ∷ 0x9B ∷ 0xAB ∷ 0x63 ∷ 0x40 ∷ 0x2E ∷ 0x46
    ∷ 0xE6 ∷ 0x23 ∷ 0xE0 ∷ 0x05 ∷ 0xB3 ∷ 0x82 ∷ 0xF4 ∷ 0xA1 ∷ 0xB9 ∷ 0x7D ∷ 0x00 ∷ []

pub cut_spelled : spelling cut ≡ cut_text
cut_spelled = refl

pub cut_read : events_in cut_text ≡ message_events cut
cut_read = refl

-- the responder's Sums up to c and from there to g
abbrev narrowed : Message (List ℕ)
narrowed =
    Sum (record { lower = []; upper = Some (codes "c") }) (0x81 ∷ 0x82 ∷ 0x07 ∷ 0x9F ∷ 0x63 ∷ 0xAF ∷ 0x65 ∷ 0x42 ∷ 0xC4
    ∷ 0xF8 ∷ 0x38 ∷ 0x5A ∷ []) ∷ Sum (record { lower = codes "c"; upper = Some (codes "g") }) (0xDF ∷ 0x81 ∷ 0x7B ∷ 0x76
    ∷ 0xEB ∷ 0x49 ∷ 0x7E ∷ 0xE7 ∷ 0x0D ∷ 0x88 ∷ 0x05 ∷ 0x50 ∷ []) ∷ []

abbrev narrowed_text : List ℕ
narrowed_text =
    0x41 ∷ 0x63 ∷ 0x81 ∷ 0x82 ∷ 0x07 ∷ 0x9F ∷ 0x63 ∷ 0xAF ∷ 0x65 ∷ 0x42 ∷ 0xC4 ∷ 0xF8 ∷ 0x38 ∷ 0x5A ∷ 0x41 ∷ 0x67 ∷ 0xDF
    ∷ 0x81 ∷ 0x7B ∷ 0x76 ∷ 0xEB ∷ 0x49 ∷ 0x7E ∷ 0xE7 ∷ 0x0D ∷ 0x88 ∷ 0x05 ∷ 0x50 ∷ 0x00 ∷ []

pub narrowed_spelled : spelling narrowed ≡ narrowed_text
narrowed_spelled = refl

pub narrowed_read : events_in narrowed_text ≡ message_events narrowed
narrowed_read = refl

-- the initiator's items from c to g
abbrev listed : Message (List ℕ)
listed = Listing (record { lower = codes "c"; upper = Some (codes "g") }) (codes "cherry" ∷ []) ∷ []

abbrev listed_text : List ℕ
listed_text = 0x01 ∷ 0x63 ∷ 0x81 ∷ 0x67 ∷ 0x07 ∷ 0x06 ∷ 0x01 ∷ 0x68 ∷ 0x65 ∷ 0x72 ∷ 0x72 ∷ 0x79 ∷ 0x00 ∷ []

pub listed_spelled : spelling listed ≡ listed_text
listed_spelled = refl

pub listed_read : events_in listed_text ≡ message_events listed
listed_read = refl

-- the responder lacks none of them, and has citron
abbrev answered : Message (List ℕ)
answered = Answer (record { lower = codes "c"; upper = Some (codes "g") }) (false ∷ []) (codes "citron" ∷ []) ∷ []

abbrev answered_text : List ℕ
answered_text =
    0x01 ∷ 0x63 ∷ 0xC1 ∷ 0x67 ∷ 0x09 ∷ 0x01 ∷ 0x00 ∷ 0x06 ∷ 0x01 ∷ 0x69 ∷ 0x74 ∷ 0x72 ∷ 0x6F ∷ 0x6E ∷ 0x00 ∷ []

pub answered_spelled : spelling answered ≡ answered_text
answered_spelled = refl

pub answered_read : events_in answered_text ≡ message_events answered
answered_read = refl

-- ---- messages

abbrev nothing : Message (List ℕ)
nothing = []

abbrev nothing_text : List ℕ
nothing_text = 0x00 ∷ []

pub nothing_spelled : spelling nothing ≡ nothing_text
nothing_spelled = refl

pub nothing_read : events_in nothing_text ≡ message_events nothing
nothing_read = refl

abbrev everything : Message (List ℕ)
everything = Sum (record { lower = []; upper = None }) (zeros 12) ∷ []

abbrev everything_text : List ℕ
everything_text = (0x40 ∷ []) ++ zeros 12 ++ (0x00 ∷ [])

pub everything_spelled : spelling everything ≡ everything_text
everything_spelled = refl

pub everything_read : events_in everything_text ≡ message_events everything
everything_read = refl

abbrev shared_bound : Message (List ℕ)
shared_bound =
    Sum (record { lower = []; upper = Some (codes "a") }) (zeros 12)
    ∷ Sum (record { lower = codes "a"; upper = Some (codes "aa") }) (zeros 12) ∷ []

abbrev shared_bound_text : List ℕ
shared_bound_text = (0x41 ∷ 0x61 ∷ []) ++ zeros 12 ++ (0x49 ∷ 0x61 ∷ []) ++ zeros 12 ++ (0x00 ∷ [])

pub shared_bound_spelled : spelling shared_bound ≡ shared_bound_text
shared_bound_spelled = refl

pub shared_bound_read : events_in shared_bound_text ≡ message_events shared_bound
shared_bound_read = refl

abbrev empty_list : Message (List ℕ)
empty_list = Listing (record { lower = []; upper = None }) [] ∷ []

abbrev empty_list_text : List ℕ
empty_list_text = 0x80 ∷ 0x00 ∷ 0x00 ∷ []

pub empty_list_spelled : spelling empty_list ≡ empty_list_text
empty_list_spelled = refl

pub empty_list_read : events_in empty_list_text ≡ message_events empty_list
empty_list_read = refl

abbrev one_item : Message (List ℕ)
one_item = Listing (record { lower = []; upper = None }) (codes "a" ∷ []) ∷ []

abbrev one_item_text : List ℕ
one_item_text = 0x80 ∷ 0x03 ∷ 0x01 ∷ 0x00 ∷ 0x61 ∷ 0x00 ∷ []

pub one_item_spelled : spelling one_item ≡ one_item_text
one_item_spelled = refl

pub one_item_read : events_in one_item_text ≡ message_events one_item
one_item_read = refl

abbrev two_lengths : Message (List ℕ)
two_lengths = Listing (record { lower = []; upper = None }) (codes "a" ∷ codes "ab" ∷ []) ∷ []

abbrev two_lengths_text : List ℕ
two_lengths_text = 0x80 ∷ 0x07 ∷ 0x00 ∷ 0x00 ∷ 0x01 ∷ 0x61 ∷ 0x01 ∷ 0x01 ∷ 0x62 ∷ 0x00 ∷ []

pub two_lengths_spelled : spelling two_lengths ≡ two_lengths_text
two_lengths_spelled = refl

pub two_lengths_read : events_in two_lengths_text ≡ message_events two_lengths
two_lengths_read = refl

abbrev lower_bound_listed : Message (List ℕ)
lower_bound_listed =
    Sum (record { lower = []; upper = Some (codes "a") }) (zeros 12)
    ∷ Listing (record { lower = codes "a"; upper = None }) (codes "a" ∷ []) ∷ []

abbrev lower_bound_listed_text : List ℕ
lower_bound_listed_text = (0x41 ∷ 0x61 ∷ []) ++ zeros 12 ++ (0x80 ∷ 0x02 ∷ 0x01 ∷ 0x01 ∷ 0x00 ∷ [])

pub lower_bound_listed_spelled : spelling lower_bound_listed ≡ lower_bound_listed_text
lower_bound_listed_spelled = refl

pub lower_bound_listed_read : events_in lower_bound_listed_text ≡ message_events lower_bound_listed
lower_bound_listed_read = refl

abbrev one_mark : Message (List ℕ)
one_mark = Answer (record { lower = []; upper = None }) (true ∷ []) [] ∷ []

abbrev one_mark_text : List ℕ
one_mark_text = 0xC0 ∷ 0x02 ∷ 0x01 ∷ 0x01 ∷ 0x00 ∷ []

pub one_mark_spelled : spelling one_mark ≡ one_mark_text
one_mark_spelled = refl

pub one_mark_read : events_in one_mark_text ≡ message_events one_mark
one_mark_read = refl

abbrev no_marks : Message (List ℕ)
no_marks = Answer (record { lower = []; upper = None }) ([]) [] ∷ []

abbrev no_marks_text : List ℕ
no_marks_text = 0xC0 ∷ 0x01 ∷ 0x00 ∷ 0x00 ∷ []

pub no_marks_spelled : spelling no_marks ≡ no_marks_text
no_marks_spelled = refl

pub no_marks_read : events_in no_marks_text ≡ message_events no_marks
no_marks_read = refl

abbrev long_bounds : Message (List ℕ)
long_bounds =
    Sum (record { lower = []; upper = Some (codes "abcdefgh") }) (zeros 12)
    ∷ Sum (record { lower = codes "abcdefghijklmno"; upper = None }) (zeros 12) ∷ []

abbrev long_bounds_text : List ℕ
long_bounds_text =
    (0x47 ∷ 0x08 ∷ 0x61 ∷ 0x62 ∷ 0x63 ∷ 0x64 ∷ 0x65 ∷ 0x66 ∷ 0x67 ∷ 0x68 ∷ []) ++ zeros 12 ++ (0x3F ∷ 0x08 ∷ 0x07 ∷ 0x69
    ∷ 0x6A ∷ 0x6B ∷ 0x6C ∷ 0x6D ∷ 0x6E ∷ 0x6F ∷ 0x40 ∷ []) ++ zeros 12 ++ (0x00 ∷ [])

pub long_bounds_spelled : spelling long_bounds ≡ long_bounds_text
long_bounds_spelled = refl

pub long_bounds_read : events_in long_bounds_text ≡ message_events long_bounds
long_bounds_read = refl

abbrev nine_marks : Message (List ℕ)
nine_marks =
    Answer (record { lower = []; upper = None }) (true ∷ false ∷ false ∷ false ∷ false ∷ false ∷ false ∷ false ∷ true
    ∷ []) (codes "ab" ∷ codes "cd" ∷ []) ∷ []

abbrev nine_marks_text : List ℕ
nine_marks_text = 0xC0 ∷ 0x0A ∷ 0x09 ∷ 0x01 ∷ 0x01 ∷ 0x02 ∷ 0x00 ∷ 0x61 ∷ 0x62 ∷ 0x00 ∷ 0x63 ∷ 0x64 ∷ 0x00 ∷ []

pub nine_marks_spelled : spelling nine_marks ≡ nine_marks_text
nine_marks_spelled = refl

pub nine_marks_read : events_in nine_marks_text ≡ message_events nine_marks
nine_marks_read = refl

-- ---- faults

pub head_of_no_kind : fault_in (0x10 ∷ []) ≡ Some 4
head_of_no_kind = refl

pub end_that_shares : fault_in (0x48 ∷ []) ≡ Some 5
end_that_shares = refl

pub end_twice : fault_in ((0x40 ∷ []) ++ zeros 12 ++ (0x40 ∷ [])) ≡ Some 6
end_twice = refl

pub item_after_the_end : fault_in ((0x40 ∷ []) ++ zeros 12 ++ (0x41 ∷ 0x61 ∷ [])) ≡ Some 6
item_after_the_end = refl

pub skip_after_the_end : fault_in ((0x40 ∷ []) ++ zeros 12 ++ (0x01 ∷ 0x61 ∷ [])) ≡ Some 6
skip_after_the_end = refl

pub bound_that_repeats : fault_in ((0x41 ∷ 0x61 ∷ []) ++ zeros 12 ++ (0x41 ∷ 0x61 ∷ []) ++ zeros 12) ≡ Some 6
bound_that_repeats = refl

pub bound_that_falls : fault_in ((0x41 ∷ 0x61 ∷ []) ++ zeros 12 ++ (0x41 ∷ 0x60 ∷ []) ++ zeros 12) ≡ Some 6
bound_that_falls = refl

pub bound_not_shared : fault_in ((0x41 ∷ 0x61 ∷ []) ++ zeros 12 ++ (0x42 ∷ 0x61 ∷ 0x62 ∷ []) ++ zeros 12) ≡ Some 6
bound_not_shared = refl

pub share_of_nothing : fault_in (0x49 ∷ 0x61 ∷ []) ≡ Some 5
share_of_nothing = refl

pub long_share_of_nothing : fault_in (0x78 ∷ []) ≡ Some 5
long_share_of_nothing = refl

pub end_that_shares_more : fault_in (0x78 ∷ 0x06 ∷ []) ≡ Some 5
end_that_shares_more = refl

pub small_share_in_a_byte : fault_in ((0x47 ∷ 0x08 ∷ 0x61 ∷ 0x62 ∷ 0x63 ∷ 0x64 ∷ 0x65 ∷ 0x66 ∷ 0x67 ∷ 0x68 ∷ [])
    ++ zeros 12 ++ (0x79 ∷ 0x06 ∷ [])) ≡ Some 5
small_share_in_a_byte = refl

pub great_share_in_a_byte : fault_in ((0x47 ∷ 0x08 ∷ 0x61 ∷ 0x62 ∷ 0x63 ∷ 0x64 ∷ 0x65 ∷ 0x66 ∷ 0x67 ∷ 0x68 ∷ [])
    ++ zeros 12 ++ (0x79 ∷ 0x40 ∷ [])) ≡ Some 5
great_share_in_a_byte = refl

pub small_rest_in_a_byte : fault_in (0x47 ∷ 0x06 ∷ []) ≡ Some 5
small_rest_in_a_byte = refl

pub rest_too_long : fault_in (0x47 ∷ 0x41 ∷ []) ≡ Some 5
rest_too_long = refl

pub skip_to_an_end : fault_in (0x01 ∷ 0x61 ∷ 0x00 ∷ []) ≡ Some 4
skip_to_an_end = refl

pub two_skips : fault_in (0x01 ∷ 0x61 ∷ 0x01 ∷ 0x62 ∷ []) ≡ Some 4
two_skips = refl

pub skip_to_a_fault : fault_in (0x01 ∷ 0x61 ∷ 0x08 ∷ 0x05 ∷ []) ≡ Some 4
skip_to_a_fault = refl

pub number_with_a_zero : fault_in (0x80 ∷ 0x80 ∷ 0x00 ∷ 0x00 ∷ []) ≡ Some 2
number_with_a_zero = refl

pub number_of_five_bytes : fault_in (0x80 ∷ 0xFF ∷ 0xFF ∷ 0xFF ∷ 0xFF ∷ 0xFF ∷ []) ≡ Some 2
number_of_five_bytes = refl

pub number_too_great : fault_in (0x80 ∷ 0xFF ∷ 0xFF ∷ 0xFF ∷ 0x7F ∷ []) ≡ Some 2
number_too_great = refl

pub width_alone : fault_in (0x80 ∷ 0x01 ∷ 0x01 ∷ 0x00 ∷ []) ≡ Some 2
width_alone = refl

pub width_too_great : fault_in (0x80 ∷ 0x02 ∷ 0x41 ∷ 0x00 ∷ []) ≡ Some 7
width_too_great = refl

pub item_twice : fault_in (0x80 ∷ 0x05 ∷ 0x01 ∷ 0x00 ∷ 0x61 ∷ 0x00 ∷ 0x61 ∷ 0x00 ∷ []) ≡ Some 8
item_twice = refl

pub items_that_fall : fault_in (0x80 ∷ 0x05 ∷ 0x01 ∷ 0x00 ∷ 0x62 ∷ 0x00 ∷ 0x61 ∷ 0x00 ∷ []) ≡ Some 8
items_that_fall = refl

pub share_of_no_item : fault_in (0x80 ∷ 0x03 ∷ 0x01 ∷ 0x01 ∷ 0x61 ∷ 0x00 ∷ []) ≡ Some 7
share_of_no_item = refl

pub one_length_in_each : fault_in (0x80 ∷ 0x04 ∷ 0x00 ∷ 0x00 ∷ 0x01 ∷ 0x61 ∷ 0x00 ∷ []) ≡ Some 7
one_length_in_each = refl

pub item_of_no_bytes : fault_in (0x80 ∷ 0x03 ∷ 0x00 ∷ 0x00 ∷ 0x00 ∷ 0x00 ∷ []) ≡ Some 7
item_of_no_bytes = refl

pub item_outside : fault_in (0x81 ∷ 0x61 ∷ 0x03 ∷ 0x01 ∷ 0x00 ∷ 0x61 ∷ 0x00 ∷ []) ≡ Some 9
item_outside = refl

pub lower_bound_twice : fault_in ((0x41 ∷ 0x61 ∷ []) ++ zeros 12 ++ (0x80 ∷ 0x03 ∷ 0x01 ∷ 0x01 ∷ 0x01 ∷ [])) ≡ Some 8
lower_bound_twice = refl

pub item_below_the_range : fault_in ((0x41 ∷ 0x61 ∷ []) ++ zeros 12 ++ (0x80 ∷ 0x03 ∷ 0x01 ∷ 0x00 ∷ 0x61 ∷ [])) ≡ Some 8
item_below_the_range = refl

pub unused_mark_bit : fault_in (0xC0 ∷ 0x02 ∷ 0x01 ∷ 0x02 ∷ 0x00 ∷ []) ≡ Some 10
unused_mark_bit = refl

pub mark_missing : fault_in (0xC0 ∷ 0x01 ∷ 0x01 ∷ 0x00 ∷ []) ≡ Some 2
mark_missing = refl

pub no_number_of_marks : fault_in (0xC0 ∷ 0x00 ∷ []) ≡ Some 2
no_number_of_marks = refl

-- ---- what has not all come

pub hello_alone : kept_in ([]) ≡ []
hello_alone = refl

pub head_alone : kept_in (0x01 ∷ []) ≡ 0x01 ∷ []
head_alone = refl

pub number_alone : kept_in (0x41 ∷ 0x00 ∷ []) ≡ 0x41 ∷ 0x00 ∷ []
number_alone = refl

pub rest_alone : kept_in (0x07 ∷ []) ≡ 0x07 ∷ []
rest_alone = refl

pub skip_alone : kept_in (0x01 ∷ 0x61 ∷ []) ≡ 0x01 ∷ 0x61 ∷ []
skip_alone = refl

pub fault_alone : kept_in (0x08 ∷ []) ≡ 0x08 ∷ []
fault_alone = refl

pub field_alone : kept_in (0x80 ∷ 0x03 ∷ 0x01 ∷ 0x00 ∷ []) ≡ 0x80 ∷ 0x03 ∷ 0x01 ∷ 0x00 ∷ []
field_alone = refl

-- ---- frames

pub frames_of_cut : frames_of twelve_bytes (Some []) (spelling cut) ≡ message_text twelve_bytes cut
frames_of_cut = refl

pub frames_of_answered : frames_of twelve_bytes (Some []) (spelling answered) ≡ message_text twelve_bytes answered
frames_of_answered = refl

-- the first byte of a frame, where part of a unit has come
pub frame_begun : frames_of twelve_bytes (Some []) (0x01 ∷ 0x61 ∷ []) ≡ 0 ∷ []
frame_begun = refl

pub packed_nine_marks : (pack twelve_bytes (Some []) (message_text twelve_bytes nine_marks)).text ≡ spelling nine_marks
packed_nine_marks = refl

pub packed_listed : (pack twelve_bytes (Some []) (message_text twelve_bytes listed)).text ≡ spelling listed
packed_listed = refl
