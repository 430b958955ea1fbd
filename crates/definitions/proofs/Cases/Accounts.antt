-- What the outcomes of sessions tell, case by case: hostile peers, and memory, readers and writers that fail.
use Rattle.std.specs.Prelude.{◌≡◌, ℕ, ◌≤◌, ◌<◌, true, false, List, [], ◌∷◌, ◌++◌, length, map}
use Rattle.std.specs.Prelude.{take, drop, replicate, refl}
use Rattle.std.proofs.Common.{sym, arith, inl, inr, ap}
use Rattle.std.specs.List.{range_with_len}
use Rattle.std.proofs.lemmas.List.{take-append-drop, length-take-le}
use Rattle.definitions.specs.Fingerprints.{Lanes, two_lanes}
use Rattle.definitions.specs.Replies.{Peer}
use Rattle.definitions.specs.Wire.{two_lane_profile, fault_text}
use Rattle.definitions.specs.Hearing.{Hearing, Refused_for}
use Rattle.definitions.specs.Accounts.{Role, Initiates, Responds, speaker_of, Seen, Call, called_for, said}
use Rattle.definitions.specs.Accounts.{heard_in, IsBeginningOf, IsEnded, IsRefused}
use Rattle.definitions.specs.Accounts.{IsMemory, IsPeerRefused, IsIo, Reading, Writing}
use Rattle.definitions.specs.Sha256.{sha256, digest_bytes, hash_after, compress, rounds, schedule, first_words}
use Rattle.definitions.proofs.Cases.Examples.{abc, no_items, has_abc}
use Rattle.definitions.proofs.Cases.Spellings.{number, everything, end, opening_of_none, list_of_abc}
use Rattle.definitions.proofs.Cases.Spellings.{answer_to_abc}
use Rattle.definitions.proofs.Cases.Streams.{hello, initiator_reads, initiator_writes}
use Rattle.definitions.proofs.Cases.Hearings.{sum_below_b, sum_from_c, no_kind}

-- ---- how a case is shown

abbrev fine : Seen
fine = record { failed = false; ended = false }

abbrev at_end : Seen
at_end = record { failed = false; ended = true }

abbrev broken : Seen
broken = record { failed = true; ended = false }

abbrev call : Role → Peer → Seen → Seen → List ℕ → List ℕ → Call Lanes
call role P reader writer read written = record {
  speaker = speaker_of two_lanes role P;
  version = length P.items;
  read = read;
  written = written;
  reader = reader;
  writer = writer;
}

-- an initiator without items, and a responder with one, over devices that do not fail
abbrev dial : Seen → List ℕ → List ℕ → Call Lanes
dial reader read written = call Initiates no_items reader fine read written

abbrev serve : Seen → List ℕ → List ℕ → Call Lanes
serve reader read written = call Responds has_abc reader fine read written

abbrev calls_for : Call Lanes → ℕ
calls_for c = length (called_for two_lanes two_lane_profile c)

abbrev Refuses : Call Lanes → ℕ → ℕ → Type 0
Refuses c k code = IsRefused two_lanes two_lane_profile c k code

within : (k n m : ℕ) → n ≡ m → k ≤ m → k ≤ n
within k n m is le = omega (arith, is)

-- what the initiator writes of its own
abbrev dialed : List ℕ
dialed = hello ++ opening_of_none

abbrev fault : ℕ → List ℕ
fault code = number 2 ++ 5 ∷ code ∷ []

-- by the first fault in what was read
refuses : (c : Call Lanes) (k code : ℕ) → calls_for c ≡ k →
    c.written ≡ said two_lanes two_lane_profile c k ++ fault_text code →
    heard_in two_lanes two_lane_profile c ≡ Refused_for code → Refuses c k code
refuses c k code count written first = record {
  wrote = record { count = omega (arith, count); written = inl written };
  why = inl (record { first = first; after = inl count });
}

-- by the table of sessions or the gate
refuses_own : (c : Call Lanes) (k n code : ℕ) → calls_for c ≡ n → k ≤ n →
    c.written ≡ said two_lanes two_lane_profile c k ++ fault_text code → 50 ≤ code → code ≤ 54 → Refuses c k code
refuses_own c k n code count le written low high = record {
  wrote = record { count = within k (calls_for c) n count le; written = inl written };
  why = inr (low, high);
}

-- ---- a peer that cuts, stalls, misplaces and floods: of the side that speaks first

pub no_input : Refuses (dial at_end [] (dialed ++ fault 3)) 1 3
no_input = refuses (dial at_end [] (dialed ++ fault 3)) 1 3 refl refl refl

pub frame_of_no_bytes : Refuses (dial fine (hello ++ number 0) (dialed ++ fault 2)) 1 2
frame_of_no_bytes = refuses (dial fine (hello ++ number 0) (dialed ++ fault 2)) 1 2 refl refl refl

pub frame_too_long : Refuses (dial fine (hello ++ 0 ∷ 0x80 ∷ 0 ∷ 1 ∷ []) (dialed ++ fault 2)) 1 2
frame_too_long = refuses (dial fine (hello ++ 0 ∷ 0x80 ∷ 0 ∷ 1 ∷ []) (dialed ++ fault 2)) 1 2 refl refl refl

pub answer_to_nothing :
    Refuses (dial fine (hello ++ number 0x0B ++ 3 ∷ everything ++ number 0 ++ number 0) (dialed ++ fault 20)) 1 20
answer_to_nothing =
    refuses (dial fine (hello ++ number 0x0B ++ 3 ∷ everything ++ number 0 ++ number 0) (dialed ++ fault 20)) 1 20 refl
    refl refl

pub partition_not_closed : Refuses (dial fine (hello ++ sum_below_b ++ end) (dialed ++ fault 22)) 1 22
partition_not_closed = refuses (dial fine (hello ++ sum_below_b ++ end) (dialed ++ fault 22)) 1 22 refl refl refl

pub count_beyond_the_body : Refuses (dial fine (hello ++ number 0x0B ++ 2 ∷ everything
    ++ (0xFF ∷ 0xFF ∷ 0xFF ∷ 0xFF ∷ []) ++ 1 ∷ 0x61 ∷ 1 ∷ 0x62 ∷ []) (dialed ++ fault 2)) 1 2
count_beyond_the_body = refuses (dial fine (hello ++ number 0x0B ++ 2 ∷ everything ++ (0xFF ∷ 0xFF ∷ 0xFF ∷ 0xFF ∷ [])
    ++ 1 ∷ 0x61 ∷ 1 ∷ 0x62 ∷ []) (dialed ++ fault 2)) 1 2 refl refl refl

pub fault_frame_came : IsPeerRefused two_lanes two_lane_profile (dial fine (hello ++ fault 99) dialed) 1 99
fault_frame_came = record { wrote = record { count = refl; written = refl }; told = refl }

-- the refusal of the earliest frame

pub gap_before_a_bad_kind :
    Refuses (dial fine (hello ++ sum_below_b ++ sum_from_c ++ no_kind) (dialed ++ fault 22)) 1 22
gap_before_a_bad_kind =
    refuses (dial fine (hello ++ sum_below_b ++ sum_from_c ++ no_kind) (dialed ++ fault 22)) 1 22 refl refl refl

pub bad_kind_before_a_gap : Refuses (dial fine (hello ++ sum_below_b ++ no_kind) (dialed ++ fault 4)) 1 4
bad_kind_before_a_gap = refuses (dial fine (hello ++ sum_below_b ++ no_kind) (dialed ++ fault 4)) 1 4 refl refl refl

-- ---- of the side that is spoken to

pub list_as_first_message : Refuses (serve fine initiator_reads (hello ++ fault 20)) 0 20
list_as_first_message = refuses (serve fine initiator_reads (hello ++ fault 20)) 0 20 refl refl refl

pub another_hello : Refuses (serve fine (0x52 ∷ 0x52 ∷ 0x53 ∷ 0x30 ∷ []) (hello ++ fault 1)) 0 1
another_hello = refuses (serve fine (0x52 ∷ 0x52 ∷ 0x53 ∷ 0x30 ∷ []) (hello ++ fault 1)) 0 1 refl refl refl

-- each proper beginning of what an initiator sends, before its message is whole and after it
abbrev prefix : ℕ → List ℕ
prefix n = take n initiator_writes

abbrev heard_of_prefix : ℕ → Hearing Lanes
heard_of_prefix n = heard_in two_lanes two_lane_profile (serve at_end (prefix n) [])

pub prefixes_are_refused : map heard_of_prefix (range_with_len 0 69) ≡ replicate 69 (Refused_for 3)
unfolding sha256 digest_bytes hash_after compress rounds schedule first_words
prefixes_are_refused = refl

pub prefixes_call_for : map (λ n. calls_for (serve at_end (prefix n) [])) (range_with_len 0 69)
    ≡ replicate 48 0 ++ replicate 21 1
unfolding sha256 digest_bytes hash_after compress rounds schedule first_words
prefixes_call_for = refl

pub prefix_of_40 : Refuses (serve at_end (prefix 40) (hello ++ fault 3)) 0 3
prefix_of_40 = refuses (serve at_end (prefix 40) (hello ++ fault 3)) 0 3 refl refl refl

pub prefix_of_68 : Refuses (serve at_end (prefix 68) (hello ++ list_of_abc ++ fault 3)) 1 3
unfolding sha256 digest_bytes hash_after compress rounds schedule first_words
prefix_of_68 = refuses (serve at_end (prefix 68) (hello ++ list_of_abc ++ fault 3)) 1 3 refl refl refl

-- ---- sessions that end

pub initiator_ends : IsEnded two_lanes two_lane_profile (dial fine initiator_reads initiator_writes) 2
    (record { ours = []; theirs = abc }) 0
initiator_ends =
    record { wrote = record { count = refl; written = refl }; over = refl; learned_is = refl; version_is = refl }

pub responder_ends : IsEnded two_lanes two_lane_profile (serve fine initiator_writes (hello ++ list_of_abc)) 1
    (record { ours = abc; theirs = [] }) 1
unfolding sha256 digest_bytes hash_after compress rounds schedule first_words
responder_ends =
    record { wrote = record { count = refl; written = refl }; over = refl; learned_is = refl; version_is = refl }

-- ---- refusals of the table of sessions, and of the gate

pub table_is_full : Refuses (serve fine initiator_writes (hello ++ fault 50)) 0 50
unfolding sha256 digest_bytes hash_after compress rounds schedule first_words
table_is_full = refuses_own (serve fine initiator_writes (hello ++ fault 50)) 0 1 50 refl (omega arith) refl
    (omega arith) (omega arith)

pub gate_is_shut : Refuses (serve fine initiator_writes (hello ++ list_of_abc ++ fault 54)) 1 54
unfolding sha256 digest_bytes hash_after compress rounds schedule first_words
gate_is_shut = refuses_own (serve fine initiator_writes (hello ++ list_of_abc ++ fault 54)) 1 1 54 refl
    (omega arith) refl (omega arith) (omega arith)

-- ---- memory runs out, before the reply and after it

pub memory_before_anything_is_read : IsMemory two_lanes two_lane_profile (serve fine [] (hello ++ fault 90)) 0
memory_before_anything_is_read = record { wrote = record { count = omega arith; written = inl refl } }

pub memory_before_the_reply : IsMemory two_lanes two_lane_profile (serve fine (prefix 48) (hello ++ fault 90)) 0
unfolding sha256 digest_bytes hash_after compress rounds schedule first_words
memory_before_the_reply = record { wrote = record { count = omega arith; written = inl refl } }

pub memory_after_the_reply :
    IsMemory two_lanes two_lane_profile (serve fine initiator_writes (hello ++ list_of_abc ++ fault 90)) 1
unfolding sha256 digest_bytes hash_after compress rounds schedule first_words
memory_after_the_reply = record {
  wrote =
      record { count = within 1 (calls_for (serve fine initiator_writes [])) 1 refl (omega arith); written = inl refl };
}

-- the writer failed inside the fault frame
pub memory_and_a_broken_writer :
    IsMemory two_lanes two_lane_profile (call Responds has_abc fine broken [] (hello ++ 0 ∷ 0 ∷ [])) 0
memory_and_a_broken_writer =
    record { wrote = record { count = omega arith; written = inr (refl, (0 ∷ 2 ∷ 5 ∷ 90 ∷ [], refl)) } }

-- ---- a writer that fails at its nth byte

abbrev fails_at : ℕ → List ℕ → Call Lanes
fails_at n read = call Initiates no_items fine broken read (prefix n)

beginning : (n : ℕ) (all : List ℕ) → IsBeginningOf (take n all) all
beginning n all = (drop n all, sym (take-append-drop n all))

-- before the first message is whole
pub writer_fails_in_the_first : (n : ℕ) → n < 48 →
    IsIo two_lanes two_lane_profile (call Initiates no_items fine broken [] (take n dialed)) 0 Writing
writer_fails_in_the_first n low = record {
  wrote = record {
    count = omega arith;
    front = beginning n dialed;
    no_less = λ some. absurd (omega arith);
    no_more = λ more. let l = length-take-le n dialed (omega arith) in omega (arith, l);
  };
  failed = refl;
}

-- inside the second
pub writer_fails_in_the_second : (n : ℕ) → n < 21 → IsIo two_lanes two_lane_profile
    (call Initiates no_items fine broken initiator_reads (dialed ++ take n answer_to_abc)) 1 Writing
writer_fails_in_the_second n low = record {
  wrote = record {
    count = omega arith;
    front = (drop n answer_to_abc, ap (λ (l : List ℕ). dialed ++ l) (sym (take-append-drop n answer_to_abc)));
    no_less = λ some. (take n answer_to_abc, refl);
    no_more = λ more. let l = length-take-le n answer_to_abc (omega arith) in omega (arith, l);
  };
  failed = refl;
}

-- a reader that fails, before the reply is whole
abbrev read_failed : ℕ → Call Lanes
read_failed n = call Initiates no_items broken fine (take n initiator_reads) dialed

pub none_came_whole : map (λ n. calls_for (read_failed n)) (range_with_len 0 24) ≡ replicate 24 1
none_came_whole = refl

reader_fails : (n : ℕ) → calls_for (read_failed n) ≡ 1 →
    IsBeginningOf dialed (said two_lanes two_lane_profile (read_failed n) 2) →
    IsBeginningOf (said two_lanes two_lane_profile (read_failed n) 1) dialed →
    IsIo two_lanes two_lane_profile (read_failed n) 1 Reading
reader_fails n one front all = record {
  wrote = record {
    count = omega (arith, one);
    front = front;
    no_less = λ some. all;
    no_more = λ more. absurd (omega (arith, one));
  };
  failed = inl refl;
}

pub reader_fails_at_once : IsIo two_lanes two_lane_profile (read_failed 0) 1 Reading
reader_fails_at_once = reader_fails 0 refl ([], refl) ([], refl)

pub reader_fails_in_the_reply : IsIo two_lanes two_lane_profile (read_failed 23) 1 Reading
reader_fails_in_the_reply = reader_fails 23 refl ([], refl) ([], refl)
