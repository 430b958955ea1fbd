-- The next event of a stream, taken off a piece.
use Rattle.std.proofs.Common.{◌≡◌, ℕ, zero, suc, ◌+◌, ◌-◌, ◌<◌, ◌≤◌, ◌⊎◌, inl, inr}
use Rattle.std.proofs.Common.{Bool, true, false, nat_lt, min}
use Rattle.std.proofs.Common.{List, [], ◌∷◌, ◌++◌, length, take, drop, Option, Some, None, Result, Ok, Err}
use Rattle.std.proofs.Common.{rules, refl, sym, ap, subst, ◌∙◌, arith, append_assoc}
use Rattle.std.proofs.lemmas.List.{append-nil, length-append, length-take-le, length-drop, take-append-drop}
use Rattle.std.proofs.Math.Seq.{take-length}
use Rattle.std.proofs.lemmas.Bool.{ltb-true, ltb-false}
use Rattle.std.specs.Option.{option_to_list}
use Rattle.definitions.specs.Items.{IsBytes}
use Rattle.definitions.specs.Wire.{Profile, Event}
use Rattle.definitions.specs.Wire.{frame, event_text}
use Rattle.definitions.specs.Streams.{Standing, Before_hello, In_message, Meaning_over, Faulted}
use Rattle.definitions.specs.Streams.{Fed, feed, stays}
use Rattle.definitions.proofs.Lemmas.{map-append}
use Rattle.laws.proofs.Fields.{IsBytes-both, rest_fits, front_fits}
use Rattle.laws.specs.Codec.{NextIsExact}
use Rattle.laws.specs.Parts.{FeedsJoin, joined}
use Rattle.wire_core.specs.Standings.{is_over, put_after}
use Rattle.wire_core.specs.Events.{event_value, event_values}
use Rattle.wire_core.specs.Feeds.{StreamState, fed_into, Continues, fault_at, UnlessMemory}
use Rattle.wire_core.specs.Nexts.{hello_due, hello_length, frame_end, IsReach, TakesNext, IsFedAlone, Refuses, taken_by}
use Rattle.wire_core.specs.declared.event.Event as declared
use Rattle.wire_core.specs.declared.standing.Standing as declared_standing
use Rattle.wire_core.specs.declared.standing.Standing.TheVariants as standings
use Rattle.wire_core.specs.declared.fault.DecodeError.{DecodeError}
use Rattle.wire_core.specs.declared.fault.DecodeError.TheVariants as errors
use Rattle.wire_core.proofs.Held.{held_joined}
use Rattle.wire_core.proofs.Outcomes.{no_bytes, Outcome, end_same, outcome, kept_ends}

-- ---- so many bytes of a piece

-- the bytes up to there are one frame at most, and no less where the piece goes on after them
abbrev IsCut : Standing → List ℕ → List ℕ → ℕ → Type 0
IsCut s kept piece count = (length (kept ++ take count piece) ≤ frame_end s (kept ++ take count piece))
    × (length (kept ++ take count piece) < frame_end s (kept ++ take count piece) → count ≡ length piece)

abbrev CutNumbers : ℕ → ℕ → ℕ → ℕ → Type 0
CutNumbers all front end count = (front + count ≤ end) × (front + count < end → count ≡ all)

cut_numbers : (all front start whole end first count : ℕ) → front < first → start ≤ end → start ≤ whole →
    (start ≤ front → whole ≡ first) → (start ≤ front + count → whole ≡ end) → count ≡ min all (whole - front) →
    (before within : Bool) → nat_lt front start ≡ before → nat_lt (front + count) start ≡ within →
    CutNumbers all front end count
cut_numbers all front start whole end first count less some more by_first by_end is true true b w =
    let early : front < start = ltb-true _ _ b in
    let short : front + count < start = ltb-true _ _ w in
    (omega arith, λ under. omega arith)
cut_numbers all front start whole end first count less some more by_first by_end is true false b w =
    let early : front < start = ltb-true _ _ b in
    let long : start ≤ front + count = ltb-false _ _ w in
    let same = by_end long in
    (omega arith, λ under. omega arith)
cut_numbers all front start whole end first count less some more by_first by_end is false within b w =
    let late : start ≤ front = ltb-false _ _ b in
    let one = by_first late in
    let two = by_end (omega arith) in
    (omega arith, λ under. omega arith)

cut_whole : (s : Standing) (kept piece : List ℕ) (count : ℕ) → length kept < frame_end s kept → count ≤ length piece →
    count ≡ min (length piece) (frame_end s (kept ++ piece) - length kept) → IsCut s kept piece count
cut_whole s kept piece count less within is =
    let bytes : List ℕ = kept ++ take count piece in
    let start = hello_length s + 4 in
    let a = length-append kept (take count piece) in
    let t = length-take-le count piece within in
    let l : length bytes ≡ length kept + count = omega arith in
    let parts : kept ++ piece ≡ bytes ++ drop count piece =
    ap (λ (x : List ℕ). kept ++ x) (sym (take-append-drop count piece))
    ∙ sym (append_assoc kept (take count piece) (drop count piece)) in
    let n = cut_numbers (length piece) (length kept) start (frame_end s (kept ++ piece)) (frame_end s bytes)
    (frame_end s kept) count less (omega arith) (omega arith)
    (λ long. end_same s kept piece long)
    (λ long. ap (frame_end s) parts ∙ end_same s bytes (drop count piece) (omega arith)) is
    (nat_lt (length kept) start) (nat_lt (length kept + count) start) refl refl in
    subst (λ (m : ℕ). (m ≤ frame_end s bytes) × (m < frame_end s bytes → count ≡ length piece)) (sym l) n

is_cut : (s : Standing) (kept piece : List ℕ) (count : ℕ) → length kept < frame_end s kept → count ≤ length piece →
    IsReach s kept piece count → (few : Bool) → nat_lt (length (kept ++ piece)) (hello_length s + 4) ≡ few →
    IsCut s kept piece count
is_cut s kept piece count less within reach true few =
    let short : length (kept ++ piece) < hello_length s + 4 = ltb-true _ _ few in
    let all = reach.0 short in
    let a = length-append kept piece in
    let b = length-append kept (take count piece) in
    let t = length-take-le count piece within in
    (omega arith, λ _. all)
is_cut s kept piece count less within reach false few =
    cut_whole s kept piece count less within (reach.1 (ltb-false _ _ few))

-- ---- the next event

-- a fault; or all of the piece is read, and there is no event; or an event
abbrev pub Next : {F : Type 0} (P : Profile F) → Standing → List ℕ → List ℕ → ℕ → Fed F → Type 0
Next {F} P s kept piece count fed = ((code : ℕ) × (fed ≡ stays (Faulted code) []))
    ⊎ (((fed.events ≡ []) × (count ≡ length piece))
    ⊎ ((e : Event F) × (to : Standing) × (fed ≡ record { events = e ∷ []; to = to; kept = [] })
    × (fault_at to ≡ None) × (kept ++ take count piece ≡ hello_due P s ++ frame (event_text P e))))

as_next : {F : Type 0} (P : Profile F) (s : Standing) (kept piece : List ℕ) (count : ℕ) (fed : Fed F) →
    IsCut s kept piece count →
    Outcome P s (kept ++ take count piece) fed → Next P s kept piece count fed
as_next P s kept piece count fed cut (inl fault) = inl fault
as_next P s kept piece count fed cut (inr (inl (none, less))) = inr (inl (none, cut.1 less))
as_next P s kept piece count fed cut (inr (inr event)) = inr (inr event)

over_next : {F : Type 0} (P : Profile F) (s : Standing) (kept piece : List ℕ) (count : ℕ) → is_over s ≡ true →
    count ≡ length piece →
    Next P s kept piece count (feed P s (kept ++ take count piece))
over_next P Before_hello kept piece count over all = absurd cc
over_next P (In_message parts) kept piece count over all = absurd cc
over_next P Meaning_over kept piece count over all = inr (inl (refl, all))
over_next P (Faulted code) kept piece count over all = inl (code, refl)

-- where what follows counts no more it is all of the piece
abbrev pub IsShare : Standing → List ℕ → List ℕ → ℕ → Type 0
IsShare s kept piece count = (count ≤ length piece) × (is_over s ≡ true → count ≡ length piece)
    × (is_over s ≡ false → IsReach s kept piece count)

pub shared : (old inside : StreamState) (kept piece : List ℕ) (count : ℕ) → inside ≡ old → kept ≡ inside.kept →
    count ≤ length piece → (is_over inside.standing ≡ true → count ≡ length piece) →
    (is_over inside.standing ≡ false → IsReach inside.standing kept piece count) →
    IsShare old.standing old.kept piece count
shared old inside kept piece count same is within over reach =
    subst (λ (s : StreamState). IsShare s.standing s.kept piece count) same
    (within, over, λ goes_on. subst (λ (t : List ℕ). IsReach inside.standing t piece count) is (reach goes_on))

next_is : {F : Type 0} (P : Profile F) → NextIsExact P → (s : Standing) (kept piece : List ℕ) (count : ℕ) →
    IsBytes kept →
    IsBytes piece → feed P s kept ≡ stays s kept → IsShare s kept piece count →
    (over : Bool) → is_over s ≡ over → Next P s kept piece count (feed P s (kept ++ take count piece))
next_is P exact s kept piece count fits more read share true over = over_next P s kept piece count over (share.1 over)
next_is P exact s kept piece count fits more read share false over =
    let bytes : List ℕ = kept ++ take count piece in
    let front : IsBytes (take count piece) =
    front_fits piece (take count piece) (drop count piece) (sym (take-append-drop count piece)) more in
    let cut = is_cut s kept piece count (kept_ends P exact s kept over fits read) share.0 (share.2 over)
    (nat_lt (length (kept ++ piece)) (hello_length s + 4)) refl in
    as_next P s kept piece count (feed P s bytes) cut
    (outcome P exact s bytes over (IsBytes-both kept (take count piece) fits front) cut.0)

-- so many bytes of the piece, after those that are kept, reach no further than a frame
pub cut_one : {F : Type 0} (P : Profile F) → NextIsExact P → (s : Standing) (kept piece : List ℕ) (count : ℕ) →
    IsBytes kept → feed P s kept ≡ stays s kept → is_over s ≡ false → count ≤ length piece →
    IsReach s kept piece count → length (kept ++ take count piece) ≤ frame_end s (kept ++ take count piece)
cut_one P exact s kept piece count fits read goes_on within reach =
    let cut = is_cut s kept piece count (kept_ends P exact s kept goes_on fits read) within reach
    (nat_lt (length (kept ++ piece)) (hello_length s + 4)) refl in
    cut.0

-- the same of a feed that is seen from inside a call
pub next_of : {F : Type 0} (P : Profile F) → NextIsExact P → (old inside : StreamState) (kept piece : List ℕ)
    (count : ℕ) → inside ≡ old → kept ≡ inside.kept →
    count ≤ length piece → (is_over inside.standing ≡ true → count ≡ length piece) →
    (is_over inside.standing ≡ false → IsReach inside.standing kept piece count) →
    IsBytes old.kept → IsBytes piece → feed P old.standing old.kept ≡ stays old.standing old.kept →
    Next P old.standing old.kept piece count (feed P old.standing (old.kept ++ take count piece))
next_of P exact old inside kept piece count same is within over reach fits more read =
    next_is P exact old.standing old.kept piece count fits more read
    (shared old inside kept piece count same is within over reach) (is_over old.standing) refl

-- ---- what is told of it

some_taken : {F : Type 0} (P : Profile F) (s : Standing) (kept piece : List ℕ) (count : ℕ) (e : Event F) →
    feed P s kept ≡ stays s kept →
    (let fed : Fed F = feed P s (kept ++ take count piece) in fed.events ≡ e ∷ []) → 0 < count
some_taken {F} P s kept piece zero e read one = absurd (let none : [] ≡ e ∷ [] =
    sym (ap (λ (f : Fed F). f.events) (ap (feed P s) (append-nil kept) ∙ read)) ∙ one in cc)
some_taken {F} P s kept piece (suc count) e read one = omega arith

pub next_taken : {F : Type 0} (P : Profile F) (old new : StreamState) (piece : List ℕ) (count : ℕ)
    (made : Option (declared.Event F)) → feed P old.standing old.kept ≡ stays old.standing old.kept →
    count ≤ length piece →
    Next P old.standing old.kept piece count (feed P old.standing (old.kept ++ take count piece)) →
    IsFedAlone (feed P old.standing (old.kept ++ take count piece)) (Ok (made, new)) →
    TakesNext P old piece (Ok (count, made)) new
next_taken {F} P old new piece count made held within (inl (code, is)) (fed, faultless) =
    absurd (let to : Faulted code ≡ new.standing =
    sym (ap (λ (f : Fed F). f.to) is) ∙ ap (λ (f : Fed F). f.to) fed in
    let at : Some code ≡ None = ap fault_at to ∙ faultless in cc)
next_taken {F} P old new piece count None held within (inr (inl (none, all))) (fed, faultless) =
    let same : take count piece ≡ piece = ap (λ (n : ℕ). take n piece) all ∙ take-length piece in
    (all, ap (λ (t : List ℕ). feed P old.standing (old.kept ++ t)) (sym same) ∙ fed)
next_taken {F} P old new piece count (Some x) held within (inr (inl (none, all))) (fed, faultless) =
    absurd (let wrong : event_value x ∷ [] ≡ [] = sym (ap (λ (f : Fed F). f.events) fed) ∙ none in cc)
next_taken {F} P old new piece count None held within (inr (inr (e, to, is, at, text))) (fed, faultless) =
    absurd (let wrong : [] ≡ e ∷ [] = sym (ap (λ (f : Fed F). f.events) fed) ∙ ap (λ (f : Fed F). f.events) is in cc)
next_taken {F} P old new piece count (Some x) held within (inr (inr (e, to, is, at, text))) (fed, faultless) =
    let one : event_value x ∷ [] ≡ e ∷ [] =
    sym (ap (λ (f : Fed F). f.events) fed) ∙ ap (λ (f : Fed F). f.events) is in
    let value : e ≡ event_value x = cc in (
      some_taken P old.standing old.kept piece count e held (ap (λ (f : Fed F). f.events) is),
      within,
      text ∙ ap (λ (y : Event F). hello_due P old.standing ++ frame (event_text P y)) value,
      fed,
      sym (ap (λ (f : Fed F). f.kept) fed) ∙ ap (λ (f : Fed F). f.kept) is,
    )

pub next_refused : {F : Type 0} (P : Profile F) → FeedsJoin P → (old : StreamState) (piece : List ℕ) (count : ℕ)
    (e : DecodeError) → IsBytes old.kept → IsBytes piece → is_over old.standing ≡ false →
    IsFedAlone (feed P old.standing (old.kept ++ take count piece)) (Err e) → Refuses P old piece e
next_refused {F} P join old piece count errors.Memory fits more goes_on fed = goes_on
next_refused {F} P join old piece count (errors.Fault f) fits more goes_on fed =
    let back = drop count piece in
    let parts = sym (take-append-drop count piece) in
    let bytes : List ℕ = old.kept ++ take count piece in
    let all : old.kept ++ piece ≡ bytes ++ back =
    ap (λ (t : List ℕ). old.kept ++ t) parts ∙ sym (append_assoc old.kept (take count piece) back) in
    let front = IsBytes-both old.kept (take count piece) fits (front_fits piece (take count piece) back parts more) in
    ap (feed P old.standing) all
    ∙ join old.standing bytes back front (rest_fits piece (take count piece) back parts more)
    ∙ ap (λ (a : Fed F). joined a (feed P a.to (a.kept ++ back))) fed

-- ---- where what follows counts no more

pub over_refused : {F : Type 0} (P : Profile F) (s : Standing) (bytes : List ℕ) (code : ℕ) → Some code ≡ fault_at s →
    feed P s bytes ≡ stays (Faulted code) []
over_refused P Before_hello bytes code is = absurd cc
over_refused P (In_message parts) bytes code is = absurd cc
over_refused P Meaning_over bytes code is = absurd cc
over_refused P (Faulted other) bytes code is =
    let same : other ≡ code = cc in ap (λ (n : ℕ). stays (Faulted n) []) same

pub over_taken : {F : Type 0} (P : Profile F) (old new : StreamState) (piece : List ℕ) →
    is_over old.standing ≡ true → None ≡ fault_at old.standing → new ≡ record { standing = Meaning_over; kept = [] } →
    TakesNext P old piece (Ok (length piece, None)) new
over_taken {F} P old new piece over faultless is = (refl, by old.standing over faultless) where
  by : (s : Standing) → is_over s ≡ true → None ≡ fault_at s → feed P s (old.kept ++ piece) ≡ fed_into [] new
  by Before_hello over faultless = absurd cc
  by (In_message parts) over faultless = absurd cc
  by Meaning_over over faultless = ap (λ (n : StreamState). fed_into [] n) (sym is)
  by (Faulted code) over faultless = absurd cc

-- ---- one event after another

pub step_joined : {F : Type 0} (P : Profile F) → FeedsJoin P → (old new : StreamState) (piece left : List ℕ)
    (count : ℕ) (before after : List (declared.Event F)) (made : Option (declared.Event F)) →
    IsBytes old.kept → IsBytes piece → feed P new.standing new.kept ≡ stays new.standing new.kept →
    TakesNext P old piece (Ok (count, made)) new → left ≡ drop count piece →
    after ≡ before ++ option_to_list made →
    put_after (event_values before) (feed P old.standing (old.kept ++ piece))
    ≡ put_after (event_values after) (feed P new.standing (new.kept ++ left))
step_joined {F} P join old new piece left count before after None fits more held (all, read) is grown =
    let none : left ≡ [] = is ∙ no_bytes (drop count piece) (let l = length-drop count piece in omega arith) in
    let same : before ≡ after = sym (grown ∙ append-nil before) in
    let rest : feed P new.standing (new.kept ++ left) ≡ fed_into [] new =
    ap (λ (t : List ℕ). feed P new.standing (new.kept ++ t)) none
    ∙ ap (feed P new.standing) (append-nil new.kept) ∙ held in
    ap (put_after (event_values before)) (read ∙ sym rest)
    ∙ ap (λ (es : List (declared.Event F)). put_after (event_values es) (feed P new.standing (new.kept ++ left))) same
step_joined {F} P join old new piece left count before after (Some x) fits more held (some, within, text, read, kept)
    is grown =
    let back = drop count piece in
    let parts = sym (take-append-drop count piece) in
    let bytes : List ℕ = old.kept ++ take count piece in
    let all : old.kept ++ piece ≡ bytes ++ back =
    ap (λ (t : List ℕ). old.kept ++ t) parts ∙ sym (append_assoc old.kept (take count piece) back) in
    let front = IsBytes-both old.kept (take count piece) fits (front_fits piece (take count piece) back parts more) in
    let b : Fed F = feed P new.standing (new.kept ++ back) in
    let events : event_values before ++ event_value x ∷ [] ≡ event_values after =
    sym (map-append event_value before (x ∷ [])) ∙ ap event_values (sym grown) in
    ap (λ (t : List ℕ). put_after (event_values before) (feed P old.standing t)) all
    ∙ ap (put_after (event_values before))
    (join old.standing bytes back front (rest_fits piece (take count piece) back parts more)
    ∙ ap (λ (a : Fed F). joined a (feed P a.to (a.kept ++ back))) read)
    ∙ (λ i. record {
      events = (sym (append_assoc (event_values before) (event_value x ∷ []) b.events)
          ∙ ap (λ (es : List (Event F)). es ++ b.events) events) i;
      to = b.to;
      kept = b.kept;
    })
    ∙ ap (λ (t : List ℕ). put_after (event_values after) (feed P new.standing (new.kept ++ t))) (sym is)

pub ends_joined : {F : Type 0} (P : Profile F) (new : StreamState) (rest : List ℕ) (events : List (Event F)) →
    rest ≡ [] → feed P new.standing new.kept ≡ stays new.standing new.kept →
    put_after events (feed P new.standing (new.kept ++ rest)) ≡ fed_into events new
ends_joined {F} P new rest events none held =
    ap (put_after events) (ap (λ (t : List ℕ). feed P new.standing (new.kept ++ t)) none
    ∙ ap (feed P new.standing) (append-nil new.kept) ∙ held)
    ∙ (λ i. record { events = append-nil events i; to = new.standing; kept = new.kept })

-- what was held goes on by what was taken
pub joined_next : {F : Type 0} (P : Profile F) → FeedsJoin P → (old new : StreamState) (piece : List ℕ) →
    IsBytes piece →
    (r : Result (ℕ × Option (declared.Event F)) DecodeError) → TakesNext P old piece r new →
    UnlessMemory r (Continues P old (taken_by r piece) new)
joined_next P join old new piece fits (Ok (taken, None)) (all, read) =
    let same : take taken piece ≡ piece = ap (λ (n : ℕ). take n piece) all ∙ take-length piece in
    subst (λ (t : List ℕ). Continues P old t new) (sym same) (held_joined P join old piece fits [] [] new read)
joined_next P join old new piece fits (Ok (taken, Some e)) (some, within, text, read, kept) =
    let front = front_fits piece (take taken piece) (drop taken piece) (sym (take-append-drop taken piece)) fits in
    held_joined P join old (take taken piece) front [] (event_value e ∷ []) new read
joined_next P join old new piece fits (Err (errors.Fault f)) read = held_joined P join old piece fits [] [] new read
joined_next P join old new piece fits (Err errors.Memory) same = tt
