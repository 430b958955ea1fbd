-- Bytes after the beginning of a hello or a frame, fewer than it wants.
use Rattle.std.proofs.Common.{rules, ◌≡◌, ℕ, zero, suc, ◌+◌, ◌-◌, ◌<◌, ◌≤◌, ◌==◌, ◌||◌, Bool, true, false, Result, Ok}
use Rattle.std.proofs.Common.{Err, Option, Some, None, List, [], ◌∷◌, ◌++◌, length, take, drop, nat_lt, if◌then◌else◌}
use Rattle.std.proofs.Common.{bytes_eq, refl, sym, ap, subst, ◌∙◌, arith}
use Rattle.std.proofs.lemmas.List.{length-append, length-drop}
use Rattle.std.proofs.lemmas.Bool.{ltb-true, ltb-false}
use Rattle.std.specs.Int.{w32, from_be_bytes}
use Rattle.definitions.specs.Wire.{Profile, Event, Came, Ended, Failed, Stream, max_body}
use Rattle.definitions.specs.Refusals.{bad_hello}
use Rattle.definitions.specs.Reading.{event_at}
use Rattle.definitions.specs.Streams as streams
use Rattle.definitions.specs.Streams.{Before_hello, In_message, Meaning_over, Faulted, Fed, fed_by, feed_frames}
use Rattle.definitions.specs.Streams.{feed_start, feed, stays}
use Rattle.wire_core.specs.Standings.{is_over}
use Rattle.wire_core.specs.Feeds.{fault_at}

abbrev is_hello : streams.Standing → Bool
is_hello Before_hello = true
is_hello (In_message parts) = false
is_hello Meaning_over = false
is_hello (Faulted code) = false

-- ---- frames are after the hello

after_by : {F : Type 0} (r : Result (Option (Event F × List ℕ)) ℕ) (parts : ℕ) (bytes : List ℕ)
    (more : ℕ → List ℕ → Fed F) → ((n : ℕ) (rest : List ℕ) → is_hello (more n rest).to ≡ false) →
    is_hello (fed_by r parts bytes more).to ≡ false
after_by (Err code) parts bytes more goes = refl
after_by (Ok None) parts bytes more goes = refl
after_by (Ok (Some (Came p, rest))) parts bytes more goes = goes (parts + 1) rest
after_by (Ok (Some (Ended, rest))) parts bytes more goes = goes 0 rest
after_by (Ok (Some (Failed code, rest))) parts bytes more goes = refl

after_hello : {F : Type 0} (P : Profile F) (fuel parts : ℕ) (bytes : List ℕ) →
    is_hello (feed_frames P fuel parts bytes).to ≡ false
after_hello P zero parts bytes = refl
after_hello P (suc fuel) parts bytes =
    after_by (event_at P Stream parts bytes) parts bytes (feed_frames P fuel) (after_hello P fuel)

start_hello : {F : Type 0} (P : Profile F) (bytes : List ℕ) (few same : Bool) →
    is_hello (if few then stays {F = F} Before_hello bytes else if same
    then feed_frames P (length bytes) 0 (drop 4 bytes) else stays (Faulted bad_hello) []).to ≡ few
start_hello P bytes true same = refl
start_hello P bytes false true = after_hello P (length bytes) 0 (drop 4 bytes)
start_hello P bytes false false = refl

-- the hello is due where fewer than four bytes have come
pub hello_few : {F : Type 0} (P : Profile F) (bytes : List ℕ) → feed_start P bytes ≡ stays Before_hello bytes →
    length bytes < 4
hello_few {F} P bytes read =
    let due : nat_lt (length bytes) 4 ≡ true =
    sym (start_hello P bytes (nat_lt (length bytes) 4) (bytes_eq (take 4 bytes) P.hello))
    ∙ ap (λ (f : Fed F). is_hello f.to) read in
    ltb-true _ _ due

-- ---- a frame

abbrev number : List ℕ → ℕ
number bytes = from_be_bytes w32 (take 4 bytes)

few_wait : {F : Type 0} (P : Profile F) (fuel parts : ℕ) (bytes : List ℕ) → length bytes < 4 →
    feed_frames P fuel parts bytes ≡ stays (In_message parts) bytes
few_wait P zero parts bytes few = refl
few_wait P (suc fuel) parts bytes few = let short : nat_lt (length bytes) 4 ≡ true = search (rules, few) in
    rw short refl

-- a length that is none is a fault
right_length : {F : Type 0} (P : Profile F) (fuel parts : ℕ) (bytes : List ℕ) → 4 ≤ length bytes →
    length bytes ≤ fuel → feed_frames P fuel parts bytes ≡ stays (In_message parts) bytes →
    (number bytes == 0 || nat_lt max_body (number bytes)) ≡ false
right_length P fuel parts bytes four le read = grind arith

part_waits : {F : Type 0} (P : Profile F) (fuel parts : ℕ) (bytes : List ℕ) → 4 ≤ length bytes →
    (number bytes == 0 || nat_lt max_body (number bytes)) ≡ false → length bytes < 4 + number bytes →
    feed_frames P fuel parts bytes ≡ stays (In_message parts) bytes
part_waits P zero parts bytes four right less = refl
part_waits P (suc fuel) parts bytes four right less =
    let whole : nat_lt (length bytes) 4 ≡ false = search (rules, four) in
    let l = length-drop 4 bytes in
    let lt : length (drop 4 bytes) < number bytes = omega arith in
    let short : nat_lt (length (drop 4 bytes)) (number bytes) ≡ true = search (rules, lt) in
    rw (whole, right, short) refl

take_front : (n : ℕ) (front back : List ℕ) → n ≤ length front → take n (front ++ back) ≡ take n front
take_front zero front back le = refl
take_front (suc n) [] back le = absurd (omega arith)
take_front (suc n) (x ∷ front) back le = ap (λ (t : List ℕ). x ∷ t) (take_front n front back (omega arith))

-- the beginning of a hello, or of a frame, wants more than so many bytes
abbrev pub WantsMore : List ℕ → ℕ → Type 0
WantsMore kept count =
    (length kept < 4 → length kept + count < 4) × (4 ≤ length kept → length kept + count < 4 + number kept)

frame_waits : {F : Type 0} (P : Profile F) (parts : ℕ) (kept more : List ℕ) →
    feed_frames P (length kept) parts kept ≡ stays (In_message parts) kept → WantsMore kept (length more) →
    (fuel : ℕ) → feed_frames P fuel parts (kept ++ more) ≡ stays (In_message parts) (kept ++ more)
frame_waits P parts kept more read wants fuel = by_length (nat_lt (length kept) 4) refl where
  by_length : (b : Bool) → nat_lt (length kept) 4 ≡ b →
      feed_frames P fuel parts (kept ++ more) ≡ stays (In_message parts) (kept ++ more)
  by_length true t =
      let few : length kept < 4 = ltb-true _ _ t in
      let all = wants.0 few in
      let l = length-append kept more in
      few_wait P fuel parts (kept ++ more) (omega arith)
  by_length false t =
      let four : 4 ≤ length kept = ltb-false _ _ t in
      let all = wants.1 four in
      let l = length-append kept more in
      let same : number (kept ++ more) ≡ number kept = ap (from_be_bytes w32) (take_front 4 kept more four) in
      let right = right_length P (length kept) parts kept four (omega arith) read in
      let right_after : (number (kept ++ more) == 0 || nat_lt max_body (number (kept ++ more))) ≡ false =
      ap (λ (n : ℕ). n == 0 || nat_lt max_body n) same ∙ right in
      part_waits P fuel parts (kept ++ more) (omega arith) right_after (omega arith)

hello_waits : {F : Type 0} (P : Profile F) (bytes : List ℕ) → length bytes < 4 →
    feed_start P bytes ≡ stays Before_hello bytes
hello_waits P bytes few = let short : nat_lt (length bytes) 4 ≡ true = search (rules, few) in rw short refl

pub still_waits : {F : Type 0} (P : Profile F) (s : streams.Standing) (kept more : List ℕ) → is_over s ≡ false →
    feed P s kept ≡ stays s kept → WantsMore kept (length more) → feed P s (kept ++ more) ≡ stays s (kept ++ more)
still_waits P Before_hello kept more goes_on read wants =
    let all = wants.0 (hello_few P kept read) in
    let l = length-append kept more in
    hello_waits P (kept ++ more) (omega arith)
still_waits P (In_message parts) kept more goes_on read wants =
    frame_waits P parts kept more read wants (length (kept ++ more))
still_waits P Meaning_over kept more goes_on read wants = absurd cc
still_waits P (Faulted code) kept more goes_on read wants = absurd cc

pub wants_more : (kept same more : List ℕ) (wanted : ℕ) → same ≡ kept → (length same < 4 → length same + wanted ≡ 4) →
    (4 ≤ length same → wanted ≡ 4 + number same - length same) →
    length more < wanted → WantsMore kept (length more)
wants_more kept same more wanted is short frame less =
    let told : (length kept < 4 → length kept + wanted ≡ 4)
    × (4 ≤ length kept → wanted ≡ 4 + number kept - length kept) =
    subst (λ (t : List ℕ). (length t < 4 → length t + wanted ≡ 4) × (4 ≤ length t → wanted ≡ 4 + number t - length t))
    is (short, frame) in
    ((λ few. let all = told.0 few in omega arith), (λ four. let all = told.1 four in omega arith))

-- where more bytes count, there is no fault
pub no_fault : (s : streams.Standing) → is_over s ≡ false → fault_at s ≡ None
no_fault Before_hello goes_on = refl
no_fault (In_message parts) goes_on = refl
no_fault Meaning_over goes_on = absurd cc
no_fault (Faulted code) goes_on = absurd cc
