-- What a stream makes of bytes that are one frame at most: waits for more, one event, or a fault; and what it keeps ends
-- before the frame does.
use Rattle.std.proofs.Common.{◌≡◌, ℕ, zero, suc, ◌+◌, ◌-◌, ◌<◌, ◌≤◌, ◌⊎◌, inl, inr}
use Rattle.std.proofs.Common.{Bool, true, false, nat_lt}
use Rattle.std.proofs.Common.{List, [], ◌∷◌, ◌++◌, length, take, drop, Option, Some, None, Result, Ok, Err, bytes_eq}
use Rattle.std.proofs.Common.{rules, if◌then◌else◌, refl, sym, ap, subst, ◌∙◌, arith}
use Rattle.std.proofs.lemmas.List.{append-nil, length-append, length-drop, take-append-drop}
use Rattle.std.proofs.lemmas.List.{take-append-le, drop-append-le}
use Rattle.std.proofs.Math.Seq.{take-length}
use Rattle.std.proofs.lemmas.Bool.{ltb-true, ltb-false}
use Rattle.std.proofs.lemmas.Nat.{from_be_bytes-to_be_bytes_4}
use Rattle.std.specs.Int.{w32, from_be_bytes}
use Rattle.definitions.specs.Items.{IsBytes}
use Rattle.definitions.specs.Wire.{Profile, IsProfile, Stream, Event, Came, Ended, Failed}
use Rattle.definitions.specs.Wire.{count_text, frame, event_text, max_body}
use Rattle.definitions.specs.Refusals.{bad_hello}
use Rattle.definitions.specs.Faults.{IsPartial}
use Rattle.definitions.specs.Reading.{event_at}
use Rattle.definitions.specs.Streams.{Standing, Before_hello, In_message, Meaning_over, Faulted}
use Rattle.definitions.specs.Streams.{Fed, with_event, go_on, fed_by, feed_frames, feed, stays}
use Rattle.definitions.proofs.Lemmas.{bytes_eq-Decides}
use Rattle.laws.proofs.Fields.{rest_fits}
use Rattle.laws.specs.Codec.{NextIsExact}
use Rattle.wire_core.specs.Standings.{is_over, stands_after, standing_of, IsRead}
use Rattle.wire_core.specs.Events.{event_value}
use Rattle.wire_core.specs.Feeds.{fault_at}
use Rattle.wire_core.specs.Nexts.{hello_due, hello_length, frame_end}
use Rattle.wire_core.specs.Refused.{fault_number, Fails}
use Rattle.wire_core.specs.declared.event.Event as declared
use Rattle.wire_core.specs.declared.standing.Standing as declared_standing
use Rattle.wire_core.specs.declared.standing.Standing.TheVariants as standings
use Rattle.wire_core.specs.declared.fault.DecodeError.{DecodeError}
use Rattle.wire_core.specs.declared.fault.DecodeError.TheVariants as errors
use Rattle.wire_core.proofs.Waiting.{hello_few}

abbrev number : List ℕ → ℕ
number bytes = from_be_bytes w32 (take 4 bytes)

-- ---- one frame

count_is : (n : ℕ) (rest : List ℕ) → n ≤ max_body → number (count_text n ++ rest) ≡ n
count_is n rest small = from_be_bytes-to_be_bytes_4 n (omega arith)

text_is : (text rest : List ℕ) → length text ≤ max_body → number (frame text ++ rest) ≡ length text
text_is text rest small = from_be_bytes-to_be_bytes_4 (length text) (omega arith)

pub no_bytes : (bytes : List ℕ) → length bytes ≡ 0 → bytes ≡ []
no_bytes [] none = refl
no_bytes (b ∷ bytes) none = absurd (omega arith)

-- after a frame that ends no earlier than the bytes stands nothing
none_after : (bytes text rest : List ℕ) → bytes ≡ frame text ++ rest → length text ≤ max_body →
    length bytes ≤ 4 + number bytes → rest ≡ []
none_after bytes text rest is small most =
    let n = ap number is ∙ text_is text rest small in
    let l = ap length is in
    let a = length-append (frame text) rest in
    no_bytes rest (omega arith)

partial_ends : (bytes : List ℕ) → IsPartial bytes → length bytes < 4 + number bytes
partial_ends bytes (inl few) = omega arith
partial_ends bytes (inr (n, rest, right, is, less)) =
    let same = ap number is ∙ count_is n rest right.1 in
    let l = ap length is in
    let a = length-append (count_text n) rest in
    omega arith

-- after the hello the bytes reach no further either
pub after_cut : (bytes : List ℕ) → length bytes ≤ frame_end Before_hello bytes →
    length (drop 4 bytes) ≤ 4 + number (drop 4 bytes)
after_cut bytes most = let l = length-drop 4 bytes in omega arith

-- ---- what stands next, in bytes that are one frame at most

abbrev pub Outcome : {F : Type 0} (P : Profile F) → Standing → List ℕ → Fed F → Type 0
Outcome {F} P s bytes fed = ((code : ℕ) × (fed ≡ stays (Faulted code) []))
    ⊎ (((fed.events ≡ []) × (length bytes < frame_end s bytes))
    ⊎ ((e : Event F) × (to : Standing) × (fed ≡ record { events = e ∷ []; to = to; kept = [] })
    × (fault_at to ≡ None) × (bytes ≡ hello_due P s ++ frame (event_text P e))))

nothing_waits : {F : Type 0} (P : Profile F) (fuel parts : ℕ) →
    feed_frames P fuel parts [] ≡ stays (In_message parts) []
nothing_waits P zero parts = refl
nothing_waits P (suc fuel) parts = refl

no_fault_after : {F : Type 0} (parts : ℕ) (e : Event F) → fault_at (stands_after parts e) ≡ None
no_fault_after parts (Came p) = refl
no_fault_after parts Ended = refl
no_fault_after parts (Failed code) = refl

alone : {F : Type 0} (P : Profile F) (e : Event F) (fuel parts : ℕ) (rest : List ℕ) → rest ≡ [] →
    go_on e parts (λ n. feed_frames P fuel n rest) ≡ record { events = e ∷ []; to = stands_after parts e; kept = [] }
alone P (Came p) fuel parts rest none =
    ap (with_event (Came p)) (ap (feed_frames P fuel (parts + 1)) none ∙ nothing_waits P fuel (parts + 1))
alone P Ended fuel parts rest none =
    ap (with_event Ended) (ap (feed_frames P fuel 0) none ∙ nothing_waits P fuel 0)
alone P (Failed code) fuel parts rest none = refl

by_event : {F : Type 0} (P : Profile F) → NextIsExact P → (fuel parts : ℕ) (bytes : List ℕ) → IsBytes bytes →
    length bytes ≤ 4 + number bytes → (r : Result (Option (Event F × List ℕ)) ℕ) →
    event_at P Stream parts bytes ≡ r →
    Outcome P (In_message parts) bytes (fed_by r parts bytes (feed_frames P fuel))
by_event P exact fuel parts bytes fits most (Err code) is = inl (code, refl)
by_event P exact fuel parts bytes fits most (Ok None) is =
    inr (inl (refl, partial_ends bytes (((exact Stream parts bytes).2 fits).0 None is)))
by_event P exact fuel parts bytes fits most (Ok (Some (e, rest))) is =
    let stands = ((exact Stream parts bytes).2 fits).0 (Some (e, rest)) is in
    let text = event_text P e in
    let none = none_after bytes text rest stands.3 stands.1 most in
    inr (inr (
      e,
      stands_after parts e,
      alone P e fuel parts rest none,
      no_fault_after parts e,
      stands.3 ∙ ap (λ (t : List ℕ). frame text ++ t) none ∙ append-nil (frame text),
    ))

frames_outcome : {F : Type 0} (P : Profile F) → NextIsExact P → (fuel parts : ℕ) (bytes : List ℕ) → IsBytes bytes →
    length bytes ≤ fuel → length bytes ≤ 4 + number bytes →
    Outcome P (In_message parts) bytes (feed_frames P fuel parts bytes)
frames_outcome P exact zero parts [] fits enough most = inr (inl (refl, omega arith))
frames_outcome P exact zero parts (b ∷ bytes) fits enough most = absurd (omega arith)
frames_outcome P exact (suc fuel) parts bytes fits enough most =
    by_event P exact fuel parts bytes fits most (event_at P Stream parts bytes) refl

-- what is fed of one frame, by what stands there
abbrev OneFed : {F : Type 0} → ℕ → List ℕ → Result (Option (Event F × List ℕ)) ℕ → Fed F → Type 0
OneFed parts bytes (Err code) fed = fed ≡ stays (Faulted code) []
OneFed parts bytes (Ok None) fed = fed ≡ stays (In_message parts) bytes
OneFed parts bytes (Ok (Some (e, rest))) fed = fed ≡ record { events = e ∷ []; to = stands_after parts e; kept = rest }

one_by : {F : Type 0} (P : Profile F) → NextIsExact P → (fuel parts : ℕ) (bytes : List ℕ) → IsBytes bytes →
    length bytes ≤ 4 + number bytes → (r : Result (Option (Event F × List ℕ)) ℕ) →
    event_at P Stream parts bytes ≡ r → OneFed parts bytes r (fed_by r parts bytes (feed_frames P fuel))
one_by P exact fuel parts bytes fits most (Err code) is = refl
one_by P exact fuel parts bytes fits most (Ok None) is = refl
one_by P exact fuel parts bytes fits most (Ok (Some (e, rest))) is =
    let stands = ((exact Stream parts bytes).2 fits).0 (Some (e, rest)) is in
    let none = none_after bytes (event_text P e) rest stands.3 stands.1 most in
    alone P e fuel parts rest none ∙ (λ i. record { events = e ∷ []; to = stands_after parts e; kept = sym none i })

one_read : {F : Type 0} (P : Profile F) → NextIsExact P → (parts : ℕ) (bytes : List ℕ) → IsBytes bytes →
    length bytes ≤ 4 + number bytes → (r : Result (Option (Event F × List ℕ)) ℕ) →
    event_at P Stream parts bytes ≡ r → (fuel : ℕ) → length bytes ≤ fuel →
    OneFed parts bytes r (feed_frames P fuel parts bytes)
one_read P exact parts [] fits most r is zero le =
    subst (λ (q : Result _ ℕ). OneFed parts [] q (stays (In_message parts) [])) is refl
one_read P exact parts (b ∷ bytes) fits most r is zero le = absurd (omega arith)
one_read P exact parts bytes fits most r is (suc fuel) le =
    subst (λ (q : Result _ ℕ). OneFed parts bytes r (fed_by q parts bytes (feed_frames P fuel))) (sym is)
    (one_by P exact fuel parts bytes fits most r is)

pub refused_one : {F : Type 0} (P : Profile F) → NextIsExact P → (parts : ℕ) (bytes left : List ℕ) → IsBytes bytes →
    length bytes ≤ 4 + number bytes → (e : DecodeError) → Fails e (event_at P Stream parts bytes) →
    (fuel : ℕ) → length bytes ≤ fuel → IsRead (feed_frames P fuel parts bytes) (Err e) left
refused_one P exact parts bytes left fits most (errors.Fault f) is fuel le =
    one_read P exact parts bytes fits most (Err (fault_number f)) is fuel le
refused_one P exact parts bytes left fits most errors.Memory is fuel le = tt

pub some_one : {F : Type 0} (P : Profile F) → NextIsExact P → (parts : ℕ) (bytes left : List ℕ) → IsBytes bytes →
    length bytes ≤ 4 + number bytes → (x : declared.Event F) (to : declared_standing.Standing) →
    event_at P Stream parts bytes ≡ Ok (Some (event_value x, left)) →
    standing_of to ≡ stands_after parts (event_value x) →
    (fuel : ℕ) → length bytes ≤ fuel → IsRead (feed_frames P fuel parts bytes) (Ok (to, Some x)) left
some_one P exact parts bytes left fits most x to is stands fuel le =
    one_read P exact parts bytes fits most (Ok (Some (event_value x, left))) is fuel le
    ∙ (λ i. record { events = event_value x ∷ []; to = sym stands i; kept = left })

pub none_one : {F : Type 0} (P : Profile F) → NextIsExact P → (parts : ℕ) (bytes left : List ℕ) → IsBytes bytes →
    length bytes ≤ 4 + number bytes → event_at P Stream parts bytes ≡ Ok None → left ≡ bytes →
    (fuel : ℕ) → length bytes ≤ fuel →
    IsRead (feed_frames P fuel parts bytes) (Ok (standings.InMessage parts, None)) left
none_one P exact parts bytes left fits most is same fuel le =
    one_read P exact parts bytes fits most (Ok None) is fuel le ∙ ap (stays (In_message parts)) (sym same)

-- ---- after the hello, where it is due

-- the frame ends where it does in the bytes that come first, if these tell its length
pub end_same : (s : Standing) (front back : List ℕ) → hello_length s + 4 ≤ length front →
    frame_end s (front ++ back) ≡ frame_end s front
end_same s front back enough =
    let start = hello_length s in
    let tail : drop start (front ++ back) ≡ drop start front ++ back = drop-append-le start front back (omega arith) in
    let l = length-drop start front in
    let four : take 4 (drop start front ++ back) ≡ take 4 (drop start front) =
    take-append-le 4 (drop start front) back (omega arith) in
    ap (λ (bytes : List ℕ). start + 4 + from_be_bytes w32 bytes) (ap (take 4) tail ∙ four)

after_hello : {F : Type 0} (P : Profile F) (bytes : List ℕ) (fed : Fed F) → 4 ≤ length bytes → take 4 bytes ≡ P.hello →
    Outcome P (In_message 0) (drop 4 bytes) fed → Outcome P Before_hello bytes fed
after_hello P bytes fed four same (inl fault) = inl fault
after_hello P bytes fed four same (inr (inl (none, few))) = let l = length-drop 4 bytes in
    inr (inl (none, omega arith))
after_hello P bytes fed four same (inr (inr (e, to, is, faultless, text))) =
    let parts : bytes ≡ P.hello ++ drop 4 bytes =
    sym (take-append-drop 4 bytes) ∙ ap (λ (t : List ℕ). t ++ drop 4 bytes) same in
    inr (inr (e, to, is, faultless, parts ∙ ap (λ (t : List ℕ). P.hello ++ t) text))

start_outcome : {F : Type 0} (P : Profile F) → NextIsExact P → (bytes : List ℕ) → IsBytes bytes →
    IsBytes (drop 4 bytes) →
    length bytes ≤ frame_end Before_hello bytes → (few same : Bool) → nat_lt (length bytes) 4 ≡ few →
    bytes_eq (take 4 bytes) P.hello ≡ same →
    Outcome P Before_hello bytes (if few then stays Before_hello bytes
    else if same then feed_frames P (length bytes) 0 (drop 4 bytes) else stays (Faulted bad_hello) [])
start_outcome P exact bytes fits rest most true same few is =
    let short : length bytes < 4 = ltb-true _ _ few in inr (inl (refl, omega arith))
start_outcome P exact bytes fits rest most false false few is = inl (bad_hello, refl)
start_outcome P exact bytes fits rest most false true few is =
    let four : 4 ≤ length bytes = ltb-false _ _ few in
    let l = length-drop 4 bytes in
    let text : take 4 bytes ≡ P.hello = (bytes_eq-Decides (take 4 bytes) P.hello).0 is in
    after_hello P bytes _ four text
    (frames_outcome P exact (length bytes) 0 (drop 4 bytes) rest (omega arith) (omega arith))

pub outcome : {F : Type 0} (P : Profile F) → NextIsExact P → (s : Standing) (bytes : List ℕ) → is_over s ≡ false →
    IsBytes bytes →
    length bytes ≤ frame_end s bytes → Outcome P s bytes (feed P s bytes)
outcome P exact Before_hello bytes goes_on fits most =
    let parts = sym (take-append-drop 4 bytes) in
    start_outcome P exact bytes fits (rest_fits bytes (take 4 bytes) (drop 4 bytes) parts fits) most
    (nat_lt (length bytes) 4) (bytes_eq (take 4 bytes) P.hello) refl refl
outcome P exact (In_message parts) bytes goes_on fits most =
    frames_outcome P exact (length bytes) parts bytes fits (omega arith) (omega arith)
outcome P exact Meaning_over bytes goes_on fits most = absurd cc
outcome P exact (Faulted code) bytes goes_on fits most = absurd cc

-- ---- the hello alone

hello_alone : {F : Type 0} (P : Profile F) (n : ℕ) (few same : Bool) → few ≡ false → same ≡ true → drop 4 P.hello ≡ [] →
    (if few then stays {F = F} Before_hello P.hello else if same then feed_frames P n 0 (drop 4 P.hello)
    else stays (Faulted bad_hello) []) ≡ stays (In_message 0) []
hello_alone P n true same no_few is none = absurd cc
hello_alone P n false false no_few is none = absurd cc
hello_alone P n false true no_few is none = ap (feed_frames P n 0) none ∙ nothing_waits P n 0

pub hello_fed : {F : Type 0} (P : Profile F) → IsProfile P → feed P Before_hello P.hello ≡ stays (In_message 0) []
hello_fed P real =
    let four = real.hello in
    let l = length-drop 4 P.hello in
    let whole : nat_lt (length P.hello) 4 ≡ false = search (rules, four) in
    let front : take 4 P.hello ≡ P.hello = ap (λ (n : ℕ). take n P.hello) (sym four) ∙ take-length P.hello in
    let same : bytes_eq (take 4 P.hello) P.hello ≡ true = (bytes_eq-Decides (take 4 P.hello) P.hello).1 front in
    hello_alone P (length P.hello) _ _ whole same (no_bytes (drop 4 P.hello) (omega arith))

-- ---- what is kept ends before the frame does

kept_by : {F : Type 0} (P : Profile F) → NextIsExact P → (fuel parts : ℕ) (bytes : List ℕ) → IsBytes bytes →
    (r : Result (Option (Event F × List ℕ)) ℕ) → event_at P Stream parts bytes ≡ r →
    fed_by r parts bytes (feed_frames P fuel) ≡ stays (In_message parts) bytes →
    length bytes < 4 + number bytes
kept_by {F} P exact fuel parts bytes fits (Err code) is read =
    absurd (let wrong : Faulted code ≡ In_message parts = ap (λ (f : Fed F). f.to) read in cc)
kept_by {F} P exact fuel parts bytes fits (Ok None) is read =
    partial_ends bytes (((exact Stream parts bytes).2 fits).0 None is)
kept_by {F} P exact fuel parts bytes fits (Ok (Some (Came p, rest))) is read =
    absurd (let wrong = ap (λ (f : Fed F). f.events) read in cc)
kept_by {F} P exact fuel parts bytes fits (Ok (Some (Ended, rest))) is read =
    absurd (let wrong = ap (λ (f : Fed F). f.events) read in cc)
kept_by {F} P exact fuel parts bytes fits (Ok (Some (Failed code, rest))) is read =
    absurd (let wrong = ap (λ (f : Fed F). f.events) read in cc)

kept_frames : {F : Type 0} (P : Profile F) → NextIsExact P → (fuel parts : ℕ) (bytes : List ℕ) → IsBytes bytes →
    length bytes ≤ fuel →
    feed_frames P fuel parts bytes ≡ stays (In_message parts) bytes → length bytes < 4 + number bytes
kept_frames P exact zero parts bytes fits enough read = omega arith
kept_frames P exact (suc fuel) parts bytes fits enough read =
    kept_by P exact fuel parts bytes fits (event_at P Stream parts bytes) refl read

pub kept_ends : {F : Type 0} (P : Profile F) → NextIsExact P → (s : Standing) (kept : List ℕ) → is_over s ≡ false →
    IsBytes kept →
    feed P s kept ≡ stays s kept → length kept < frame_end s kept
kept_ends P exact Before_hello kept goes_on fits read =
    let few = hello_few P kept read in omega arith
kept_ends P exact (In_message parts) kept goes_on fits read =
    let less = kept_frames P exact (length kept) parts kept fits (omega arith) read in omega arith
kept_ends P exact Meaning_over kept goes_on fits read = absurd cc
kept_ends P exact (Faulted code) kept goes_on fits read = absurd cc
