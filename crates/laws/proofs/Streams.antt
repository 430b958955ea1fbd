-- Streams: what they mean, in pieces too.
-- What is fed is what the bytes mean: go on frame by frame with what is next (Messages). An event in front of what the
-- rest means is what all means; no whole frame yet is kept; a fault ends it. Each event takes a byte, so the number of
-- bytes is enough fuel, and more fuel changes nothing. The other way, by induction over the events of the meaning,
-- feeding finds just these. The hello in front is one more step.
-- A stream may be cut anywhere: an event at the front of the first piece is the event at the front of both, since a
-- whole frame stays whole with more bytes after it; what is no whole frame yet is kept and read again with the second
-- piece in front of the rest.
-- What is heard are messages: the parts that came since the last end have spellings and are no more than a message may
-- have. A session's text is heard as its messages, since each of its frames is next in turn.
-- docs/LAWS.md: A stream may come in pieces.
use Rattle.std.proofs.Common.{rules, ◌≡◌, ℕ, zero, suc, ◌+◌, ◌<◌, ◌≤◌, Bool, true, false, take, drop, List, [], ◌∷◌}
use Rattle.std.proofs.Common.{◌++◌}
use Rattle.std.proofs.Common.{length, Option, Some, None, Ok, refl, sym, ap, subst, ◌∙◌, arith, inl, inr, append_assoc}
use Rattle.std.proofs.Common.{map}
use Rattle.std.specs.Prelude.{◌≢◌, nat_lt, bytes_eq, if◌then◌else◌, flat_map}
use Rattle.definitions.proofs.Words.{AllByRecursion, IsBytes, Profile, part_text, end_text, Event, Came, Ended, Failed}
use Rattle.definitions.proofs.Words.{Stream, IsProfile, count_text, frame, fault_text, IsPart, IsMessage, max_parts}
use Rattle.definitions.proofs.Words.{message_text, session_text, event_at, Standing, Before_hello, In_message}
use Rattle.definitions.proofs.Words.{Meaning_over, Faulted, MeansFrames, Fed, fed_by, feed_frames, feed_start, feed}
use Rattle.definitions.proofs.Words.{Means, messages_of, Stands, FaultyFrame, Message}
use Rattle.definitions.proofs.Lemmas.{common_steps, length-append, ltb-true, ltb-false, bytes_eq-Decides, length-drop}
use Rattle.definitions.proofs.Lemmas.{take-append-drop, append-nil, All-append}
use Rattle.laws.specs.Codec.{IsFed, FeedIsExact}
use Rattle.laws.specs.Parts.{FeedsJoin, HeardAreMessages, SessionsAreHeard}
use Rattle.laws.specs.Meeting.{refusal_text}
use Rattle.definitions.specs.Engines.{messages_in}
use Rattle.laws.proofs.Fields.{rest_fits, true_is_false, IsBytes-both}
use Rattle.laws.proofs.Messages.{event_at_told}

-- ==== What a stream is fed is what its bytes mean

abbrev pub MeansFed : {F : Type 0} → Profile F → ℕ → List ℕ → Fed F → Type 0
MeansFed P parts bytes fed = MeansFrames P parts fed.events bytes fed.to fed.kept

by_next : {F : Type 0} (P : Profile F) (parts : ℕ) (bytes : List ℕ) (more : ℕ → List ℕ → Fed F) →
    ((n : ℕ) (front rest : List ℕ) → 1 ≤ length front → bytes ≡ front ++ rest → MeansFed P n rest (more n rest)) →
    (y : Option (Event F × List ℕ)) → Stands P Stream parts bytes y →
    MeansFed P parts bytes (fed_by (Ok y) parts bytes more)
by_next P parts bytes more goes None g = inl (g, refl, refl)
by_next P parts bytes more goes (Some (Came p, rest)) g =
    (record { fields = g.0; short = g.1 }, g.2, rest, g.3, goes (parts + 1) (part_text P p) rest (omega arith) g.3)
by_next P parts bytes more goes (Some (Ended, rest)) g = (rest, g.3, goes 0 end_text rest (omega arith) g.3)
by_next P parts bytes more goes (Some (Failed code, rest)) g = (g.0, rest, g.3, refl, refl, refl)

pub frames_sound : {F : Type 0} (P : Profile F) → IsProfile P → (fuel parts : ℕ) (bytes : List ℕ) → IsBytes bytes →
    length bytes ≤ fuel → MeansFed P parts bytes (feed_frames P fuel parts bytes)
frames_sound P real zero parts [] fits le = inl (inl (omega arith), refl, refl)
frames_sound P real zero parts (b ∷ bytes) fits le = absurd (omega arith)
frames_sound {F} P real (suc fuel) parts bytes fits le =
    let t = event_at_told P real Stream parts bytes in
    let goes : (n : ℕ) (front rest : List ℕ) → 1 ≤ length front → bytes ≡ front ++ rest →
    MeansFed P n rest (feed_frames P fuel n rest) =
    λ n front rest some is. frames_sound P real fuel n rest (rest_fits bytes front rest is fits)
    (let l = ap length is in let a = length-append front rest in omega arith) in
    elim (t.total fits) [
      | inl q ↦ subst (λ r. MeansFed P parts bytes (fed_by r parts bytes (feed_frames P fuel))) (sym q.2)
          (by_next P parts bytes (feed_frames P fuel) goes q.0 q.1)
      | inr q ↦ subst (λ r. MeansFed P parts bytes (fed_by r parts bytes (feed_frames P fuel))) (sym q.2)
          (inr (q.0, q.1, refl, refl))
    ]

abbrev Step : {F : Type 0} → Profile F → ℕ → ℕ → List ℕ → ℕ → Type 0
Step P fuel parts bytes g =
    (feed_frames P fuel parts bytes ≡ fed_by (event_at P Stream parts bytes) parts bytes (feed_frames P g))
    × (length bytes ≤ suc g)

a_step : {F : Type 0} (P : Profile F) → IsProfile P → (fuel parts : ℕ) (bytes : List ℕ) → length bytes ≤ fuel →
    (g : ℕ) × Step P fuel parts bytes g
a_step P real zero parts [] le = (
  0,
  (
    sym (ap (λ r. fed_by r parts [] (feed_frames P 0))
        ((event_at_told P real Stream parts []).good None (inl (omega arith)))),
    omega arith,
  ),
)
a_step P real zero parts (b ∷ bytes) le = absurd (omega arith)
a_step P real (suc fuel) parts bytes le = (fuel, (refl, le))

shrink : (bytes front rest : List ℕ) (g : ℕ) → bytes ≡ front ++ rest → 1 ≤ length front → length bytes ≤ suc g →
    length rest ≤ g
shrink bytes front rest g is some le = let l = ap length is in let a = length-append front rest in omega arith

pub frames_only : {F : Type 0} (P : Profile F) → IsProfile P →
    (events : List (Event F)) (fuel parts : ℕ) (bytes : List ℕ) (to : Standing) (kept : List ℕ) → length bytes ≤ fuel →
    MeansFrames P parts events bytes to kept → IsFed (feed_frames P fuel parts bytes) events to kept
frames_only P real [] fuel parts bytes to kept le (inl m) =
    let s = a_step P real fuel parts bytes le in
    let e = s.1.0
    ∙ ap (λ r. fed_by r parts bytes (feed_frames P s.0)) ((event_at_told P real Stream parts bytes).good None m.0) in
    subst (λ fed. IsFed fed [] to kept) (sym e) (refl, sym m.1, sym m.2)
frames_only P real [] fuel parts bytes to kept le (inr m) =
    let s = a_step P real fuel parts bytes le in
    let e = s.1.0
    ∙ ap (λ r. fed_by r parts bytes (feed_frames P s.0)) ((event_at_told P real Stream parts bytes).bad m.0 m.1) in
    subst (λ fed. IsFed fed [] to kept) (sym e) (refl, sym m.2, sym m.3)
frames_only P real (Came p ∷ events) fuel parts bytes to kept le (part, few, rest, is, m) =
    let s = a_step P real fuel parts bytes le in
    let e = s.1.0 ∙ ap (λ r. fed_by r parts bytes (feed_frames P s.0))
    ((event_at_told P real Stream parts bytes).good (Some (Came p, rest)) (part.fields, part.short, few, is)) in
    let i = frames_only P real events s.0 (parts + 1) rest to kept
    (shrink bytes (part_text P p) rest s.0 is (omega arith) s.1.1) m in
    subst (λ fed. IsFed fed (Came p ∷ events) to kept) (sym e) (ap (λ es. Came p ∷ es) i.0, i.1, i.2)
frames_only P real (Ended ∷ events) fuel parts bytes to kept le (rest, is, m) =
    let s = a_step P real fuel parts bytes le in
    let e = s.1.0 ∙ ap (λ r. fed_by r parts bytes (feed_frames P s.0))
    ((event_at_told P real Stream parts bytes).good (Some (Ended, rest)) (tt, omega arith, tt, is)) in
    let i = frames_only P real events s.0 0 rest to kept (shrink bytes end_text rest s.0 is (omega arith) s.1.1) m in
    subst (λ fed. IsFed fed (Ended ∷ events) to kept) (sym e) (ap (λ es. Ended ∷ es) i.0, i.1, i.2)
frames_only P real (Failed code ∷ events) fuel parts bytes to kept le (small, rest, is, none, over, empty) =
    let s = a_step P real fuel parts bytes le in
    let e = s.1.0 ∙ ap (λ r. fed_by r parts bytes (feed_frames P s.0))
    ((event_at_told P real Stream parts bytes).good (Some (Failed code, rest)) (small, omega arith, tt, is)) in
    subst (λ fed. IsFed fed (Failed code ∷ events) to kept) (sym e)
    (ap (λ es. Failed code ∷ es) (sym none), sym over, sym empty)

-- ---- the hello

by_if : {X : Type 0} (M : X → Type 0) (b : Bool) (x y : X) → (b ≡ true → M x) → (b ≡ false → M y) →
    M (if b then x else y)
by_if M b x y h k = grind arith

is_text : (a b : List ℕ) → bytes_eq a b ≡ true → a ≡ b
is_text a b h = (bytes_eq-Decides a b).0 h

no_text : (a b : List ℕ) → bytes_eq a b ≡ false → a ≢ b
no_text a b h e = true_is_false (sym ((bytes_eq-Decides a b).1 e) ∙ h)

start_sound : {F : Type 0} (P : Profile F) → IsProfile P → (bytes : List ℕ) → IsBytes bytes →
    (let fed = feed_start P bytes in Means P Before_hello fed.events bytes fed.to fed.kept)
start_sound {F} P real bytes fits =
    let M : Fed F → Type 0 = λ fed. Means P Before_hello fed.events bytes fed.to fed.kept in
    by_if M (nat_lt (length bytes) 4) _ _
    (λ h. inl (refl, inl (ltb-true _ _ h, refl, refl)))
    (λ h. by_if M (bytes_eq (take 4 bytes) P.hello) _ _
    (λ e. let is : bytes ≡ P.hello ++ drop 4 bytes = sym (take-append-drop 4 bytes)
    ∙ ap (λ (t : List ℕ). t ++ drop 4 bytes) (is_text _ _ e) in
    inr (
      drop 4 bytes,
      is,
      frames_sound P real (length bytes) 0 (drop 4 bytes) (rest_fits bytes P.hello (drop 4 bytes) is fits)
          (let l = length-drop 4 bytes in omega arith),
    ))
    (λ e. inl (refl, inr (ltb-false _ _ h, no_text _ _ e, refl, refl))))

pub feed_sound : {F : Type 0} (P : Profile F) → IsProfile P → (from : Standing) (bytes : List ℕ) → IsBytes bytes →
    (let fed = feed P from bytes in Means P from fed.events bytes fed.to fed.kept)
feed_sound P real Before_hello bytes fits = start_sound P real bytes fits
feed_sound P real (In_message parts) bytes fits = frames_sound P real (length bytes) parts bytes fits (omega arith)
feed_sound P real Meaning_over bytes fits = (refl, refl, refl)
feed_sound P real (Faulted code) bytes fits = (refl, refl, refl)

pub feed_only : {F : Type 0} (P : Profile F) → IsProfile P →
    (from : Standing) (events : List (Event F)) (bytes : List ℕ) (to : Standing) (kept : List ℕ) →
    Means P from events bytes to kept → IsFed (feed P from bytes) events to kept
feed_only P real from events bytes to kept m = search (rules, frames_only)

pub feed_exact : {F : Type 0} (P : Profile F) → IsProfile P → FeedIsExact P
feed_exact P real from bytes =
    (λ fits. feed_sound P real from bytes fits, λ events to kept m. feed_only P real from events bytes to kept m)

-- ==== A stream may be cut anywhere

-- more bytes after a beginning
then_more : (bytes front rest back : List ℕ) → bytes ≡ front ++ rest → bytes ++ back ≡ front ++ (rest ++ back)
then_more bytes front rest back is = ap (λ (t : List ℕ). t ++ back) is ∙ append_assoc front rest back

faulty_more : {F : Type 0} (P : Profile F) (parts : ℕ) (bytes back : List ℕ) (code : ℕ) →
    FaultyFrame P Stream parts bytes code → FaultyFrame P Stream parts (bytes ++ back) code
faulty_more P parts bytes back code (inl (n, rest, right, is, g)) =
    inl (n, rest ++ back, right, then_more bytes (count_text n) rest back is, g)
faulty_more P parts bytes back code (inr (inl (b, rest, right, is, g))) =
    inr (inl (b, rest ++ back, right, then_more bytes (frame b) rest back is, g))
faulty_more P parts bytes back code (inr (inr (p, rest, right, is, g))) =
    inr (inr (p, rest ++ back, right, then_more bytes (part_text P p) rest back is, g))

-- what is kept is the end of what came, or nothing
kept_fits : {F : Type 0} (P : Profile F) (parts : ℕ) (events : List (Event F)) (bytes : List ℕ) (to : Standing)
    (kept : List ℕ) → MeansFrames P parts events bytes to kept → IsBytes bytes → IsBytes kept
kept_fits P parts [] bytes to kept (inl m) fits = subst IsBytes (sym m.2) fits
kept_fits P parts [] bytes to kept (inr m) fits = subst IsBytes (sym m.3) tt
kept_fits P parts (Came p ∷ events) bytes to kept (part, few, rest, is, m) fits =
    kept_fits P (parts + 1) events rest to kept m (rest_fits bytes (part_text P p) rest is fits)
kept_fits P parts (Ended ∷ events) bytes to kept (rest, is, m) fits =
    kept_fits P 0 events rest to kept m (rest_fits bytes end_text rest is fits)
kept_fits P parts (Failed code ∷ events) bytes to kept (small, rest, is, none, over, empty) fits =
    subst IsBytes (sym empty) tt

any_kept_fits : {F : Type 0} (P : Profile F) (from : Standing) (events : List (Event F)) (bytes : List ℕ)
    (to : Standing) (kept : List ℕ) → Means P from events bytes to kept → IsBytes bytes → IsBytes kept
any_kept_fits P Before_hello events bytes to kept (inl (none, inl m)) fits = subst IsBytes (sym m.2) fits
any_kept_fits P Before_hello events bytes to kept (inl (none, inr m)) fits = subst IsBytes (sym m.3) tt
any_kept_fits P Before_hello events bytes to kept (inr (rest, is, m)) fits =
    kept_fits P 0 events rest to kept m (rest_fits bytes P.hello rest is fits)
any_kept_fits P (In_message parts) events bytes to kept m fits = kept_fits P parts events bytes to kept m fits
any_kept_fits P Meaning_over events bytes to kept m fits = subst IsBytes (sym m.2) tt
any_kept_fits P (Faulted code) events bytes to kept m fits = subst IsBytes (sym m.2) tt

join_frames : {F : Type 0} (P : Profile F) (parts : ℕ) (events : List (Event F)) (front : List ℕ) (to : Standing)
    (kept : List ℕ) → MeansFrames P parts events front to kept →
    (more : List (Event F)) (back : List ℕ) (to2 : Standing) (kept2 : List ℕ) →
    Means P to more (kept ++ back) to2 kept2 → MeansFrames P parts (events ++ more) (front ++ back) to2 kept2
join_frames P parts [] front to kept (inl (partial, there, held)) more back to2 kept2 m = grind arith
join_frames P parts [] front to kept (inr (code, faulty, there, held)) more back to2 kept2 m =
    grind (arith, faulty_more P parts front back code faulty)
join_frames P parts (Came p ∷ events) front to kept (part, few, rest, is, m) more back to2 kept2 m2 = (
  part,
  few,
  rest ++ back,
  then_more front (part_text P p) rest back is,
  join_frames P (parts + 1) events rest to kept m more back to2 kept2 m2,
)
join_frames P parts (Ended ∷ events) front to kept (rest, is, m) more back to2 kept2 m2 =
    (rest ++ back, then_more front end_text rest back is, join_frames P 0 events rest to kept m more back to2 kept2 m2)
join_frames {F} P parts (Failed code ∷ events) front to kept (small, rest, is, none, over, empty) more back to2 kept2
    m2 =
    let after : Means P Meaning_over more (kept ++ back) to2 kept2 =
    subst (λ s. Means P s more (kept ++ back) to2 kept2) over m2 in (
      small,
      rest ++ back,
      then_more front (fault_text code) rest back is,
      ap (λ (es : List (Event F)). es ++ more) none ∙ after.0,
      after.1,
      after.2,
    )

join_any : {F : Type 0} (P : Profile F) (from : Standing) (events : List (Event F)) (front : List ℕ) (to : Standing)
    (kept : List ℕ) → Means P from events front to kept →
    (more : List (Event F)) (back : List ℕ) (to2 : Standing) (kept2 : List ℕ) →
    Means P to more (kept ++ back) to2 kept2 → Means P from (events ++ more) (front ++ back) to2 kept2
join_any {F} P Before_hello events front to kept (inl (none, inl (few, there, held))) more back to2 kept2 m =
    grind arith
join_any {F} P Before_hello events front to kept (inl (none, inr (four, other, there, held))) more back to2 kept2 m =
    grind arith
join_any P Before_hello events front to kept (inr (rest, is, m)) more back to2 kept2 m2 =
    grind (arith, common_steps, then_more, join_frames)
join_any P (In_message parts) events front to kept m more back to2 kept2 m2 =
    join_frames P parts events front to kept m more back to2 kept2 m2
join_any {F} P Meaning_over events front to kept (none, there, held) more back to2 kept2 m = grind arith
join_any {F} P (Faulted code) events front to kept (none, there, held) more back to2 kept2 m = grind arith

fed_is : {F : Type 0} (fed : Fed F) (events : List (Event F)) (to : Standing) (kept : List ℕ) →
    IsFed fed events to kept → fed ≡ record { events = events; to = to; kept = kept }
fed_is fed events to kept h i = record { events = h.0 i; to = h.1 i; kept = h.2 i }

pub feeds_joined : {F : Type 0} (P : Profile F) → IsProfile P → FeedsJoin P
feeds_joined {F} P real from front back fits more =
    let a : Fed F = feed P from front in
    let first : Means P from a.events front a.to a.kept = feed_sound P real from front fits in
    let b : Fed F = feed P a.to (a.kept ++ back) in
    let right : IsBytes (a.kept ++ back) =
    IsBytes-both a.kept back (any_kept_fits P from a.events front a.to a.kept first fits) more in
    let second : Means P a.to b.events (a.kept ++ back) b.to b.kept = feed_sound P real a.to (a.kept ++ back) right in
    fed_is (feed P from (front ++ back)) (a.events ++ b.events) b.to b.kept
    (feed_only P real from (a.events ++ b.events) (front ++ back) b.to b.kept
    (join_any P from a.events front a.to a.kept first b.events back b.to b.kept second))

-- ==== What is heard in a stream are messages that have a spelling

-- so many parts have come, and they are these
frames_heard : {F : Type 0} (P : Profile F) (parts : Message F) (n : ℕ) (events : List (Event F)) (bytes : List ℕ)
    (to : Standing) (kept : List ℕ) → n ≡ length parts → n ≤ max_parts → AllByRecursion (IsPart P) parts →
    MeansFrames P n events bytes to kept → AllByRecursion (IsMessage P) (messages_of parts events)
frames_heard P parts n [] bytes to kept e few right m = tt
frames_heard P parts n (Came p ∷ events) bytes to kept e few right (part, room, rest, is, m) =
    let l = length-append parts (p ∷ []) in
    frames_heard P (parts ++ p ∷ []) (n + 1) events rest to kept (omega arith) (omega arith)
    (All-append (IsPart P) parts (p ∷ []) right (part, tt)) m
frames_heard P parts n (Ended ∷ events) bytes to kept e few right (rest, is, m) = (
  record { count = (omega arith); parts = right },
  frames_heard P [] 0 events rest to kept (omega arith) (omega arith) tt m,
)
frames_heard P parts n (Failed code ∷ events) bytes to kept e few right m = tt

stream_heard : {F : Type 0} (P : Profile F) (events : List (Event F)) (bytes : List ℕ) (to : Standing) (kept : List ℕ) →
    Means P Before_hello events bytes to kept → AllByRecursion (IsMessage P) (messages_of [] events)
stream_heard P [] bytes to kept m = tt
stream_heard P (e ∷ events) bytes to kept (inl none) = absurd (let wrong = none.0 in cc)
stream_heard P (e ∷ events) bytes to kept (inr (rest, is, m)) =
    frames_heard P [] 0 (e ∷ events) rest to kept (omega arith) (omega arith) tt m

pub heard_messages : {F : Type 0} (P : Profile F) → IsProfile P → HeardAreMessages P
heard_messages P real bytes fits =
    let fed = feed P Before_hello bytes in
    stream_heard P fed.events bytes fed.to fed.kept (feed_sound P real Before_hello bytes fits)

-- ---- a session's text

abbrev events_of : {F : Type 0} → Message F → List (Event F) → List (Event F)
events_of M events = map (λ p. Came p) M ++ Ended ∷ events

abbrev session_events : {F : Type 0} → List (Message F) → List (Event F)
session_events [] = []
session_events (M ∷ Ms) = events_of M (session_events Ms)

message_means : {F : Type 0} (P : Profile F) (ps : Message F) (n : ℕ) (events : List (Event F)) (rest : List ℕ)
    (to : Standing) (kept : List ℕ) → n + length ps ≤ max_parts → AllByRecursion (IsPart P) ps →
    MeansFrames P 0 events rest to kept →
    MeansFrames P n (events_of ps events) (flat_map (part_text P) ps ++ (end_text ++ rest)) to kept
message_means P [] n events rest to kept few right m = (rest, refl, m)
message_means P (p ∷ ps) n events rest to kept few right m =
    grind (arith, message_means P ps (n + 1) events rest to kept (omega arith) right.1 m, append_assoc)

session_means : {F : Type 0} (P : Profile F) (Ms : List (Message F)) → AllByRecursion (IsMessage P) Ms →
    MeansFrames P 0 (session_events Ms) (flat_map (message_text P) Ms) (In_message 0) []
session_means P [] right = inl (inl (omega arith), refl, refl)
session_means P (M ∷ Ms) right = grind (arith, session_means P Ms right.1, append_assoc, message_means)

messages-events : {F : Type 0} (front ps : Message F) (events : List (Event F)) →
    messages_of front (events_of ps events) ≡ (front ++ ps) ∷ messages_of [] events
messages-events front [] events = ap (λ M. M ∷ messages_of [] events) (sym (append-nil front))
messages-events front (p ∷ ps) events =
    messages-events (front ++ p ∷ []) ps events ∙ ap (λ M. M ∷ messages_of [] events) (append_assoc front (p ∷ []) ps)

messages-session : {F : Type 0} (Ms : List (Message F)) → messages_of [] (session_events Ms) ≡ Ms
messages-session [] = refl
messages-session (M ∷ Ms) = messages-events [] M (session_events Ms) ∙ ap (λ Ns. M ∷ Ns) (messages-session Ms)

pub sessions_heard : {F : Type 0} (P : Profile F) → IsProfile P → SessionsAreHeard P
sessions_heard P real Ms right =
    let fed = feed_only P real Before_hello (session_events Ms) (session_text P Ms) (In_message 0) []
    (inr (flat_map (message_text P) Ms, refl, session_means P Ms right)) in
    ap (λ events. messages_of [] events) fed.0 ∙ messages-session Ms

-- a fault frame after them ends no message
told-none : {F : Type 0} (ps : Message F) (events : List (Event F)) (code : ℕ) →
    messages_of ps (events ++ Failed code ∷ []) ≡ messages_of ps events
told-none ps [] code = refl
told-none ps (Came p ∷ events) code = told-none (ps ++ p ∷ []) events code
told-none ps (Ended ∷ events) code = ap (λ Ms. ps ∷ Ms) (told-none [] events code)
told-none ps (Failed other ∷ events) code = refl

fault_fits : (code : ℕ) → IsBytes (fault_text code) → code < 256
fault_fits code fits = fits.1.1.1.1.1.0

pub refused_heard : {F : Type 0} (P : Profile F) → IsProfile P → (Ms : List (Message F)) (o : Option ℕ) →
    AllByRecursion (IsMessage P) Ms → IsBytes (session_text P Ms ++ refusal_text o) →
    messages_in P (session_text P Ms ++ refusal_text o) ≡ Ms
refused_heard P real Ms None right fits =
    ap (messages_in P) (append-nil (session_text P Ms)) ∙ sessions_heard P real Ms right
refused_heard {F} P real Ms (Some code) right fits =
    let texts : List ℕ = flat_map (message_text P) Ms in
    let small : code < 256 = fault_fits code
    (rest_fits (session_text P Ms ++ fault_text code) (session_text P Ms) (fault_text code) refl fits) in
    let told : Means P (In_message 0) (Failed code ∷ []) ([] ++ fault_text code) Meaning_over [] =
    (small, [], sym (append-nil (fault_text code)), refl, refl, refl) in
    let events : List (Event F) = session_events Ms ++ Failed code ∷ [] in
    let fed = feed_only P real Before_hello events (session_text P Ms ++ fault_text code) Meaning_over []
    (inr (
      texts ++ fault_text code,
      append_assoc P.hello texts (fault_text code),
      join_frames P 0 (session_events Ms) texts (In_message 0) [] (session_means P Ms right)
          (Failed code ∷ []) (fault_text code) Meaning_over [] told,
    )) in
    ap (messages_of []) fed.0 ∙ told-none [] (session_events Ms) code ∙ messages-session Ms
