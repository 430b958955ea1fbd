-- Streams of profile 1, and what an end says to what it reads.
use Rattle.std.specs.Prelude.{◌≡◌, ℕ, true, List, [], ◌∷◌, ◌++◌, Some, None, refl}
use Rattle.definitions.specs.Items.{whole}
use Rattle.definitions.specs.Fingerprints.{two_lanes, Lanes}
use Rattle.definitions.specs.Messages.{Listing}
use Rattle.definitions.specs.Wire.{two_lane_profile, Came, Ended, Failed}
use Rattle.definitions.specs.Streams.{Standing, Before_hello, In_message, Meaning_over, Faulted, Fed, feed}
use Rattle.definitions.specs.Streams.{finish_fault}
use Rattle.definitions.specs.Ends.{is_over}
use Rattle.definitions.specs.Engines.{text, messages_in, fault_frame, initiating, responding, says, session}
use Rattle.definitions.specs.Sha256.{sha256, digest_bytes, hash_after, compress, rounds, schedule, first_words}
use Rattle.definitions.proofs.Cases.Examples.{abc, no_items, has_abc}
use Rattle.definitions.proofs.Cases.Spellings.{number, everything, opening_of_none, list_of_abc, answer_to_abc}

abbrev pub hello : List ℕ
hello = 0x52 ∷ 0x52 ∷ 0x53 ∷ 0x31 ∷ []

-- a stream from its beginning
abbrev pub fed : List ℕ → Fed Lanes
fed bytes = feed two_lane_profile Before_hello bytes

abbrev pub comes_to : Standing → List ℕ → Fed Lanes
comes_to to kept = record { events = []; to = to; kept = kept }

pub hello_of_another_profile : fed (0x52 ∷ 0x52 ∷ 0x53 ∷ 0x30 ∷ []) ≡ comes_to (Faulted 1) []
hello_of_another_profile = refl

pub hello_of_another_profile_not_before : fed (0x53 ∷ 0x52 ∷ 0x53 ∷ [])
    ≡ comes_to Before_hello (0x53 ∷ 0x52 ∷ 0x53 ∷ [])
hello_of_another_profile_not_before = refl

pub hello_of_another_profile_again : feed two_lane_profile (Faulted 1) hello ≡ comes_to (Faulted 1) []
hello_of_another_profile_again = refl

abbrev pub cut_frame : List ℕ
cut_frame = number 0x23 ++ 1 ∷ 0 ∷ []

pub cut_inside_a_frame : fed (hello ++ cut_frame) ≡ comes_to (In_message 0) cut_frame
cut_inside_a_frame = refl

pub cut_inside_a_frame_finish : finish_fault (In_message 0) cut_frame ≡ Some 3
cut_inside_a_frame_finish = refl

pub nothing_read_finish : finish_fault Before_hello [] ≡ Some 3
nothing_read_finish = refl

pub after_a_part_finish : finish_fault (In_message 1) [] ≡ Some 3
after_a_part_finish = refl

pub after_a_message_finish : finish_fault (In_message 0) [] ≡ None
after_a_message_finish = refl

-- edges of the frame length

pub frame_of_no_bytes : fed (hello ++ number 0) ≡ comes_to (Faulted 2) []
frame_of_no_bytes = refl

pub frame_too_long : fed (hello ++ 0 ∷ 0x80 ∷ 0 ∷ 1 ∷ []) ≡ comes_to (Faulted 2) []
frame_too_long = refl

pub longest_frame : fed (hello ++ 0 ∷ 0x80 ∷ 0 ∷ 0 ∷ []) ≡ comes_to (In_message 0) (0 ∷ 0x80 ∷ 0 ∷ 0 ∷ [])
longest_frame = refl

-- faults of items, after an event that counts
pub items_that_fall :
    fed (hello ++ list_of_abc ++ number 0x0B ++ 2 ∷ everything ++ number 2 ++ 1 ∷ 0x62 ∷ 1 ∷ 0x61 ∷ []) ≡
    record { events = Came (Listing whole abc) ∷ Ended ∷ []; to = Faulted 8; kept = [] }
items_that_fall = refl

-- a fault frame ends the meaning: what follows it is none
pub fault_frame_received : fed (hello ++ number 2 ++ 5 ∷ 0x63 ∷ 9 ∷ [])
    ≡ record { events = Failed 0x63 ∷ []; to = Meaning_over; kept = [] }
fault_frame_received = refl

pub fault_frame_told : fault_frame two_lane_profile (hello ++ list_of_abc ++ number 2 ++ 5 ∷ 0x63 ∷ 9 ∷ []) ≡ Some 0x63
fault_frame_told = refl

-- ---- an end and its bytes: empty meets abc

abbrev pub initiator_reads : List ℕ
initiator_reads = hello ++ list_of_abc

abbrev pub initiator_writes : List ℕ
initiator_writes = hello ++ opening_of_none ++ answer_to_abc

pub empty_meets_abc_initiator_writes : text two_lane_profile 2
    (says two_lanes (initiating two_lanes no_items) (messages_in two_lane_profile initiator_reads)) ≡ initiator_writes
empty_meets_abc_initiator_writes = refl

pub empty_meets_abc_initiator_learns :
    (session two_lanes (initiating two_lanes no_items) (messages_in two_lane_profile initiator_reads)).learned
    ≡ record { ours = []; theirs = abc }
empty_meets_abc_initiator_learns = refl

pub empty_meets_abc_initiator_ends : is_over
    (session two_lanes (initiating two_lanes no_items) (messages_in two_lane_profile initiator_reads)).stage ≡ true
empty_meets_abc_initiator_ends = refl

-- what comes after the end of the session counts no more
pub nothing_after_the_end : (session two_lanes (initiating two_lanes no_items)
    (messages_in two_lane_profile (initiator_reads ++ list_of_abc))).learned ≡ record { ours = []; theirs = abc }
nothing_after_the_end = refl

pub empty_meets_abc_responder_writes : text two_lane_profile 1
    (says two_lanes (responding two_lanes has_abc) (messages_in two_lane_profile initiator_writes))
    ≡ hello ++ list_of_abc
unfolding sha256 digest_bytes hash_after compress rounds schedule first_words
empty_meets_abc_responder_writes = refl

pub empty_meets_abc_responder_learns :
    (session two_lanes (responding two_lanes has_abc) (messages_in two_lane_profile initiator_writes)).learned
    ≡ record { ours = abc; theirs = [] }
unfolding sha256 digest_bytes hash_after compress rounds schedule first_words
empty_meets_abc_responder_learns = refl

pub empty_meets_abc_responder_ends :
    is_over (session two_lanes (responding two_lanes has_abc) (messages_in two_lane_profile initiator_writes)).stage
    ≡ true
unfolding sha256 digest_bytes hash_after compress rounds schedule first_words
empty_meets_abc_responder_ends = refl
