-- What is heard frame by frame: the refusal of the earliest frame; and a message taken part by part.
use Rattle.std.specs.Prelude.{◌≡◌, ℕ, zero, suc, true, false, flat_map, nat_le, if◌then◌else◌, List, [], ◌∷◌}
use Rattle.std.specs.Prelude.{◌++◌, length, map, take, Some, None, refl, codes}
use Rattle.std.specs.List.{list_all}
use Rattle.definitions.specs.Items.{Item, Range, is_below, whole}
use Rattle.definitions.specs.Fingerprints.{Lanes, two_lanes}
use Rattle.definitions.specs.Messages.{Part, Sum, Listing, Answer, Message}
use Rattle.definitions.specs.Replies.{Peer, reply, opening}
use Rattle.definitions.specs.Wire.{two_lane_profile}
use Rattle.definitions.specs.Streams.{In_message, Faulted, feed}
use Rattle.definitions.specs.Ends.{End, Over, Spent, Replies, Refuses, initiator, after}
use Rattle.definitions.specs.Engines.{initiating, responding, messages_in, fault_frame}
use Rattle.definitions.specs.Taking.{Taken, nothing_taken, taken_all, ended, after_ended, by_parts}
use Rattle.definitions.specs.Hearing.{Hearing, Refused_for, first_fault}
use Rattle.definitions.specs.Hearing.{hearing_to}
use Rattle.definitions.proofs.Cases.Examples.{itself, binary8, peer, no_items, has_abc, letters, below, from}
use Rattle.definitions.proofs.Cases.Spellings.{number, zeros, everything, list_of_abc}
use Rattle.definitions.proofs.Cases.Streams.{hello, initiator_reads}
use Rattle.definitions.proofs.Cases.Talks.{first, sum, list, cd}

-- an initiator without items, and a responder with one
abbrev pub dials : List ℕ → Hearing Lanes
dials bytes = hearing_to two_lanes two_lane_profile (initiating two_lanes no_items) false bytes

abbrev pub serves : List ℕ → Hearing Lanes
serves bytes = hearing_to two_lanes two_lane_profile (responding two_lanes has_abc) false bytes

abbrev pub sum_below_b : List ℕ
sum_below_b = number 0x24 ++ 1 ∷ 0 ∷ 1 ∷ 0x62 ∷ zeros 32

abbrev pub sum_from_c : List ℕ
sum_from_c = number 0x24 ++ 1 ∷ 1 ∷ 0x63 ∷ 0xFF ∷ zeros 32

-- a frame of a kind that is none
abbrev pub no_kind : List ℕ
no_kind = number 1 ++ 6 ∷ []

-- the refusal is the one of the earliest frame
pub gap_before_a_bad_kind : dials (hello ++ sum_below_b ++ sum_from_c ++ no_kind) ≡ Refused_for 22
gap_before_a_bad_kind = refl

-- of whole messages only the stream's fault is seen there
pub bad_kind_after_a_gap : (feed two_lane_profile (In_message 2) no_kind).to ≡ Faulted 4
bad_kind_after_a_gap = refl

pub no_whole_message_there : messages_in two_lane_profile (hello ++ sum_below_b ++ sum_from_c ++ no_kind) ≡ []
no_whole_message_there = refl

pub bad_kind_before_a_gap : dials (hello ++ sum_below_b ++ no_kind ++ sum_from_c) ≡ Refused_for 4
bad_kind_before_a_gap = refl

-- a misplaced part goes before the fault frame after it, though that stands in the stream
pub misplaced_before_a_fault_frame : dials (hello ++ sum_from_c ++ number 2 ++ 5 ∷ 0x63 ∷ []) ≡ Refused_for 20
misplaced_before_a_fault_frame = refl

pub fault_frame_stands : fault_frame two_lane_profile (hello ++ sum_from_c ++ number 2 ++ 5 ∷ 0x63 ∷ []) ≡ Some 99
fault_frame_stands = refl

-- within one frame the wire's fault is first: the items of a misplaced list do not rise
pub wire_before_placing : serves (hello ++ number 0x0B ++ 2 ∷ everything ++ number 2 ++ 1 ∷ 0x62 ∷ 1 ∷ 0x61 ∷ [])
    ≡ Refused_for 8
wire_before_placing = refl

-- one part more than a message may have is the wire's fault, though it is misplaced too
pub one_part_too_many : (feed two_lane_profile (In_message 131072) sum_below_b).to ≡ Faulted 12
one_part_too_many = refl

-- what has not come whole is not judged
pub waits_for_the_frame : first_fault (dials (hello ++ sum_below_b ++ take 39 sum_from_c)) ≡ None
waits_for_the_frame = refl

-- after the end of the session nothing is heard
pub nothing_after_the_end : dials (initiator_reads ++ no_kind) ≡ dials initiator_reads
nothing_after_the_end = refl

pub no_message_after_the_end : dials (initiator_reads ++ list_of_abc) ≡ dials initiator_reads
no_message_after_the_end = refl

-- ---- part by part

abbrev pub waiting : End (List Item)
waiting = initiator itself cd

pub all_parts_and_the_end :
    ended (taken_all itself waiting (sum (below (codes "b")) (codes "a") ∷ sum (from (codes "b")) (codes "b") ∷ [])) ≡
    Replies (list (below (codes "b")) [] ∷ sum (record { lower = codes "b"; upper = Some (codes "d") }) (codes "c")
    ∷ sum (from (codes "d")) (codes "d") ∷ [])
all_parts_and_the_end = refl

-- the reply to one part is there before the next comes, and what is taught does not count yet
pub one_part_taken : (taken_all itself waiting (sum (below (codes "b")) (codes "a") ∷ [])).reply
    ≡ Some (list (below (codes "b")) [] ∷ [])
one_part_taken = refl

pub refused_at_the_second : by_parts itself waiting (nothing_taken waiting)
    (sum (below (codes "b")) (codes "a") ∷ sum (from (codes "c")) (codes "b") ∷ sum (from (codes "b")) [] ∷ [])
    ≡ Refuses 22
refused_at_the_second = refl

pub refused_at_the_end : by_parts itself waiting (nothing_taken waiting) (sum (below (codes "b")) (codes "a") ∷ [])
    ≡ Refuses 22
refused_at_the_end = refl

-- what was taught counts after the end of the message
abbrev listed : Taken (List Item)
listed = taken_all itself waiting (list whole (codes "ab") ∷ [])

pub taught_at_the_end : (after_ended waiting listed (ended listed)).learned
    ≡ record { ours = letters (codes "cd"); theirs = letters (codes "ab") }
taught_at_the_end = refl

-- an end that is spent takes no part
pub spent_takes_none : by_parts itself (record waiting { stage = Spent })
    (nothing_taken (record waiting { stage = Spent })) (first (codes "a")) ≡ Refuses 26
spent_takes_none = refl

-- ---- a peer that never agrees: it cuts each range after its lower bound, and has nothing in any list

-- no set of the initiator has this fingerprint
abbrev other : List Item
other = letters (codes "z")

abbrev cut_again : Range → Message (List Item)
cut_again X = if is_below (X.lower ++ 0 ∷ []) X.upper
    then Sum (record { lower = X.lower; upper = Some (X.lower ++ 0 ∷ []) }) other
    ∷ Sum (record { lower = X.lower ++ 0 ∷ []; upper = X.upper }) other ∷ [] else []

abbrev disagrees : Part (List Item) → Message (List Item)
disagrees (Sum X f) = cut_again X
disagrees (Listing X items) = Answer X (map (λ x. false) items) [] ∷ []
disagrees (Answer X marks items) = []

-- an end and its own message, after what this peer answers to it
abbrev answered : End (List Item) × Message (List Item) → End (List Item) × Message (List Item)
answered p = (after itself p.0 (flat_map disagrees p.1), reply itself p.0.peer (flat_map disagrees p.1))

abbrev against : ℕ → End (List Item) × Message (List Item) → End (List Item) × Message (List Item)
against zero p = p
against (suc k) p = against k (answered p)

abbrev eight : Peer
eight = peer binary8 (codes "abcdefgh")

abbrev end_after : ℕ → End (List Item) × Message (List Item)
end_after k = against k (initiator itself eight, opening itself eight)

-- it sends as many messages as its bound allows, and is over then
pub five_messages : map (λ k. (end_after k).0.sent) (0 ∷ 1 ∷ 2 ∷ 3 ∷ 4 ∷ 5 ∷ []) ≡ 1 ∷ 2 ∷ 3 ∷ 4 ∷ 5 ∷ 5 ∷ []
five_messages = refl

pub over_after_them : (end_after 5).0.stage ≡ Over
over_after_them = refl

-- the lists that it opens, by their lengths
abbrev list_lengths : Message (List Item) → List ℕ
list_lengths [] = []
list_lengths (Listing X items ∷ M) = length items ∷ list_lengths M
list_lengths (p ∷ M) = list_lengths M

pub short_lists : list_all (λ n. nat_le n 1) (flat_map (λ k. list_lengths (end_after k).1) (0 ∷ 1 ∷ 2 ∷ 3 ∷ 4 ∷ []))
    ≡ true
short_lists = refl
