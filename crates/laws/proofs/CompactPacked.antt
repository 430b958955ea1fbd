-- Frames in the compact spelling.
-- A frame is read as its event (Messages) and written as its unit; it takes four bytes or more, so fuel of as many as
-- there are bytes is enough. By induction on the events, and then on the messages. A whole frame stays one with more
-- bytes, so frames may come in pieces.
-- docs/LAWS.md: The compact spelling.
use Rattle.std.proofs.Common.{◌≡◌, ℕ, zero, suc, ◌<◌, ◌≤◌, Bool, true, false, List, [], ◌∷◌, ◌++◌, length, take, drop}
use Rattle.std.proofs.Common.{Option, Some, None, Result, Ok, Err, refl, sym, ap, ◌∙◌, arith, inl, inr, append_assoc}
use Rattle.std.specs.Prelude.{◌⊎◌, ◌||◌, ◌==◌, nat_lt, if◌then◌else◌, flat_map}
use Rattle.definitions.proofs.Words.{event_text, frame, IsBytes, Profile, IsProfile, IsPart, IsMessage, Message, Event}
use Rattle.definitions.proofs.Words.{Came, Ended, Failed, AllByRecursion, message_text, event_at, Stream, Counts}
use Rattle.definitions.proofs.Words.{frame_at, frame_of, event_of, event_in, counted_event, max_body, from_be_bytes}
use Rattle.definitions.proofs.Words.{w32, frame_length}
use Rattle.definitions.proofs.Lemmas.{length-drop, ltb-false}
use Rattle.definitions.specs.Compact.{unit_text, units_text, come_to, message_events, compact_message, Climbs}
use Rattle.definitions.specs.Packing.{event_frame, frames_of, Packed, with_text, packed_by, pack_by, pack}
use Rattle.definitions.specs.Reading.{◌>>=◌}
use Rattle.definitions.specs.CompactReading.{gives}
use Rattle.laws.specs.Compact.{come_through, HasFrame}
use Rattle.laws.proofs.Fields.{IsBytes-back, rest_fits, good_of}
use Rattle.laws.proofs.Messages.{event_at_told}
use Rattle.laws.proofs.CompactBounds.{given_is}
use Rattle.laws.proofs.CompactFrames.{message_frames, message_comes, message_means}

abbrev NextFrame : {F : Type 0} → Profile F → List ℕ → Type 0
NextFrame {F} P frames =
    ((e : Event F) × (rest : List ℕ) × (event_at P Stream 0 frames ≡ Ok (Some (e, rest))))
    ⊎ (((code : ℕ) × (event_at P Stream 0 frames ≡ Err code)) ⊎ (event_at P Stream 0 frames ≡ Ok None))

next_frame : {F : Type 0} (P : Profile F) (frames : List ℕ) → NextFrame P frames
next_frame {F} P frames = cases (event_at P Stream 0 frames) refl where
  cases : (r : Result (Option (Event F × List ℕ)) ℕ) → event_at P Stream 0 frames ≡ r → NextFrame P frames
  cases (Ok (Some p)) e = inl (p.0, p.1, e)
  cases (Ok None) e = inr (inr e)
  cases (Err code) e = inr (inl (code, e))

-- what follows a frame is shorter
shorter_after : (n : ℕ) (bytes : List ℕ) (f : List ℕ × List ℕ) → frame_of n bytes ≡ Ok (Some f) →
    length f.1 ≤ length bytes
shorter_after n bytes f e = cases (n == 0 || nat_lt max_body n) (nat_lt (length bytes) n) e where
  cases : (a b : Bool) → (if a then Err frame_length
      else if b then Ok None else gives (take n bytes) (drop n bytes)) ≡ Ok (Some f) → length f.1 ≤ length bytes
  cases true b e = absurd cc
  cases false true e = absurd cc
  cases false false e =
      let p = given_is (take n bytes) f.0 (drop n bytes) f.1 e in
      let is : drop n bytes ≡ f.1 = p.1 in
      omega (arith, length-drop n bytes, ap length is)

frame_shorter : (bytes : List ℕ) (f : List ℕ × List ℕ) → frame_at bytes ≡ Ok (Some f) → length f.1 < length bytes
frame_shorter bytes f e = cases (nat_lt (length bytes) 4) refl e where
  cases : (b : Bool) → nat_lt (length bytes) 4 ≡ b →
      (if b then Ok None else frame_of (from_be_bytes w32 (take 4 bytes)) (drop 4 bytes)) ≡ Ok (Some f) →
      length f.1 < length bytes
  cases true h e = absurd cc
  cases false h e =
      let four : 4 ≤ length bytes = ltb-false _ _ h in
      let less = shorter_after (from_be_bytes w32 (take 4 bytes)) (drop 4 bytes) f e in
      omega (arith, length-drop 4 bytes)

tail_of : {F : Type 0} (r : Result (Event F) ℕ) (more : List ℕ) (e : Event F) (rest : List ℕ) →
    (r >>= (λ e. gives e more)) ≡ gives e rest → more ≡ rest
tail_of (Ok read) more e rest h = (given_is read e more rest h).1
tail_of (Err code) more e rest h = absurd cc

tail_after : {F : Type 0} (r : Result (Event F) ℕ) (more : List ℕ) (e : Event F) (rest : List ℕ) →
    (r >>= (λ read. counted_event 0 read >>= (λ e. gives e more))) ≡ gives e rest → more ≡ rest
tail_after (Ok read) more e rest h = tail_of (counted_event 0 read) more e rest h
tail_after (Err code) more e rest h = absurd cc

frame_takes : {F : Type 0} (P : Profile F) (frames : List ℕ) (e : Event F) (rest : List ℕ) →
    event_at P Stream 0 frames ≡ Ok (Some (e, rest)) → length rest < length frames
frame_takes {F} P frames e rest is = cases (frame_at frames) refl is where
  cases : (r : Result (Option (List ℕ × List ℕ)) ℕ) → frame_at frames ≡ r →
      (r >>= event_of P Stream 0) ≡ gives e rest → length rest < length frames
  cases (Err code) h is = absurd cc
  cases (Ok None) h is = absurd cc
  cases (Ok (Some f)) h is =
      let less = frame_shorter frames f h in
      let same = tail_after (event_in P Stream f.0) f.1 e rest is in
      omega (arith, ap length same)

same_fuel : {F : Type 0} (P : Profile F) (n m : ℕ) (z : Option (List ℕ)) (frames : List ℕ) → length frames ≤ n →
    length frames ≤ m → pack_by P n z frames ≡ pack_by P m z frames
same_fuel P zero zero z frames le le2 = refl
same_fuel P zero (suc m) z [] le le2 = refl
same_fuel P zero (suc m) z (b ∷ frames) le le2 = absurd (omega arith)
same_fuel P (suc n) zero z [] le le2 = refl
same_fuel P (suc n) zero z (b ∷ frames) le le2 = absurd (omega arith)
same_fuel P (suc n) (suc m) z frames le le2 = elim (next_frame P frames) [
  | inl c ↦
      let less = frame_takes P frames c.0 c.1 c.2 in
      ap (λ r. packed_by P r z frames (pack_by P n)) c.2
      ∙ ap (with_text (unit_text P z c.0)) (same_fuel P n m (come_to z c.0) c.1 (omega arith) (omega arith))
      ∙ sym (ap (λ r. packed_by P r z frames (pack_by P m)) c.2)
  | inr d ↦ elim d [
    | inl c ↦ ap (λ r. packed_by P r z frames (pack_by P n)) c.1
        ∙ sym (ap (λ r. packed_by P r z frames (pack_by P m)) c.1)
    | inr c ↦ ap (λ r. packed_by P r z frames (pack_by P n)) c
        ∙ sym (ap (λ r. packed_by P r z frames (pack_by P m)) c)
  ]
]

pack_next : {F : Type 0} (P : Profile F) (z : Option (List ℕ)) (frames : List ℕ) (e : Event F) (rest : List ℕ) →
    event_at P Stream 0 frames ≡ Ok (Some (e, rest)) →
    pack P z frames ≡ with_text (unit_text P z e) (pack P (come_to z e) rest)
pack_next P z [] e rest is = absurd cc
pack_next P z (b ∷ frames) e rest is =
    let less = frame_takes P (b ∷ frames) e rest is in
    ap (λ r. packed_by P r z (b ∷ frames) (pack_by P (length frames))) is
    ∙ ap (with_text (unit_text P z e))
    (same_fuel P (length frames) (length rest) (come_to z e) rest (omega arith) (omega arith))

no_parts : {F : Type 0} (e : Event F) → Counts 0 e
no_parts (Came p) = omega arith
no_parts Ended = tt
no_parts (Failed code) = tt

pub event_next : {F : Type 0} (P : Profile F) → IsProfile P → (e : Event F) (rest : List ℕ) → HasFrame P e →
    event_at P Stream 0 (event_frame P e ++ rest) ≡ Ok (Some (e, rest))
event_next P real e rest has = (event_at_told P real Stream 0 (event_frame P e ++ rest)).good (Some (e, rest))
    (has.0, has.1, no_parts e, refl)

with_both : (a b : List ℕ) (p : Packed) → with_text a (with_text b p) ≡ with_text (a ++ b) p
with_both a b p i = record { text = sym (append_assoc a b p.text) i; to = p.to; kept = p.kept }

pub events_packed : {F : Type 0} (P : Profile F) → IsProfile P → (z : Option (List ℕ)) (es : List (Event F))
    (rest : List ℕ) → AllByRecursion (HasFrame P) es →
    pack P z (flat_map (event_frame P) es ++ rest) ≡ with_text (units_text P z es) (pack P (come_through z es) rest)
events_packed P real z [] rest has = refl
events_packed P real z (e ∷ es) rest has =
    let more : List ℕ = flat_map (event_frame P) es ++ rest in
    ap (pack P z) (append_assoc (event_frame P e) (flat_map (event_frame P) es) rest)
    ∙ pack_next P z (event_frame P e ++ more) e more (event_next P real e more has.0)
    ∙ ap (with_text (unit_text P z e)) (events_packed P real (come_to z e) es rest has.1)
    ∙ with_both (unit_text P z e) (units_text P (come_to z e) es) (pack P (come_through (come_to z e) es) rest)

-- ---- frames in pieces

frame_firm : {F : Type 0} (P : Profile F) → IsProfile P → (frames more : List ℕ) (e : Event F) (rest : List ℕ) →
    IsBytes frames → event_at P Stream 0 frames ≡ Ok (Some (e, rest)) →
    (event_at P Stream 0 (frames ++ more) ≡ Ok (Some (e, rest ++ more))) × IsBytes rest
frame_firm P real frames more e rest fits is =
    let s = good_of (event_at_told P real Stream 0 frames) fits (Some (e, rest)) is in
    let own : List ℕ = frame (event_text P e) in
    let whole : frames ++ more ≡ own ++ (rest ++ more) =
    ap (λ (t : List ℕ). t ++ more) s.3 ∙ append_assoc own rest more in (
      (event_at_told P real Stream 0 (frames ++ more)).good (Some (e, rest ++ more)) (s.0, s.1, s.2, whole),
      rest_fits frames own rest s.3 fits,
    )

abbrev pub packs_nothing : Option (List ℕ) → List ℕ → Packed
packs_nothing z frames = record { text = []; to = z; kept = frames }

pub faulty_packed : {F : Type 0} (P : Profile F) (z : Option (List ℕ)) (frames : List ℕ) (code : ℕ) →
    event_at P Stream 0 frames ≡ Err code → pack P z frames ≡ packs_nothing z frames
faulty_packed P z [] code is = refl
faulty_packed P z (b ∷ frames) code is = ap (λ r. packed_by P r z (b ∷ frames) (pack_by P (length frames))) is

begun_packed : {F : Type 0} (P : Profile F) (z : Option (List ℕ)) (frames : List ℕ) →
    event_at P Stream 0 frames ≡ Ok None → pack P z frames ≡ packs_nothing z frames
begun_packed P z [] is = refl
begun_packed P z (b ∷ frames) is = ap (λ r. packed_by P r z (b ∷ frames) (pack_by P (length frames))) is

-- what was packed, and then what is kept with more frames
abbrev packed_then : {F : Type 0} → Profile F → Packed → List ℕ → Packed
packed_then P p more = with_text p.text (pack P p.to (p.kept ++ more))

joined_by : {F : Type 0} (P : Profile F) → IsProfile P → (fuel : ℕ) (z : Option (List ℕ)) (frames more : List ℕ) →
    IsBytes frames → length frames ≤ fuel → pack P z (frames ++ more) ≡ packed_then P (pack P z frames) more
joined_by P real zero z [] more fits le = refl
joined_by P real zero z (b ∷ frames) more fits le = absurd (omega arith)
joined_by {F} P real (suc n) z frames more fits le = elim (next_frame P frames) [
  | inl c ↦
      let less = frame_takes P frames c.0 c.1 c.2 in
      let firm = frame_firm P real frames more c.0 c.1 fits c.2 in
      let own : List ℕ = unit_text P z c.0 in
      let p : Packed = pack P (come_to z c.0) c.1 in
      pack_next P z (frames ++ more) c.0 (c.1 ++ more) firm.0
      ∙ ap (with_text own) (joined_by P real n (come_to z c.0) c.1 more firm.1 (omega arith))
      ∙ with_both own p.text (pack P p.to (p.kept ++ more))
      ∙ ap (λ (q : Packed). packed_then P q more) (sym (pack_next P z frames c.0 c.1 c.2))
  | inr d ↦ elim d [
    | inl c ↦ ap (λ (q : Packed). packed_then P q more) (sym (faulty_packed P z frames c.0 c.1))
    | inr c ↦ ap (λ (q : Packed). packed_then P q more) (sym (begun_packed P z frames c))
  ]
]

pub pack_joined : {F : Type 0} (P : Profile F) → IsProfile P → (z : Option (List ℕ)) (frames more : List ℕ) →
    IsBytes frames → pack P z (frames ++ more) ≡ packed_then P (pack P z frames) more
pack_joined P real z frames more fits = joined_by P real (length frames) z frames more fits (omega arith)

-- ---- messages

pub parts_have : {F : Type 0} (P : Profile F) (M : Message F) → AllByRecursion (IsPart P) M →
    AllByRecursion (HasFrame P) (message_events M)
parts_have P [] parts = ((tt, omega arith), tt)
parts_have P (p ∷ ps) parts = ((parts.0.fields, parts.0.short), parts_have P ps parts.1)

pub message_packed : {F : Type 0} (P : Profile F) → IsProfile P → (M : Message F) (rest : List ℕ) → IsMessage P M →
    pack P (Some []) (message_text P M ++ rest) ≡ with_text (compact_message P M) (pack P (Some []) rest)
message_packed P real M rest right =
    ap (λ (t : List ℕ). pack P (Some []) (t ++ rest)) (sym (message_frames P M))
    ∙ events_packed P real (Some []) (message_events M) rest (parts_have P M right.parts)
    ∙ ap (λ z. with_text (compact_message P M) (pack P z rest)) (message_comes (Some []) M)

pub messages_packed : {F : Type 0} (P : Profile F) → IsProfile P → (Ms : List (Message F)) →
    AllByRecursion (IsMessage P) Ms →
    (pack P (Some []) (flat_map (message_text P) Ms)).text ≡ flat_map (compact_message P) Ms
messages_packed P real [] right = refl
messages_packed P real (M ∷ Ms) right =
    ap (λ (p : Packed). p.text) (message_packed P real M (flat_map (message_text P) Ms) right.0)
    ∙ ap (λ (t : List ℕ). compact_message P M ++ t) (messages_packed P real Ms right.1)

pub messages_mean : {F : Type 0} (P : Profile F) → IsProfile P → (Ms : List (Message F)) →
    AllByRecursion (IsMessage P) Ms → AllByRecursion (Climbs (Some [])) Ms → IsBytes (flat_map (compact_message P) Ms) →
    frames_of P (Some []) (flat_map (compact_message P) Ms) ≡ flat_map (message_text P) Ms
messages_mean P real [] right climbs fits = refl
messages_mean P real (M ∷ Ms) right climbs fits =
    message_means P real M (flat_map (compact_message P) Ms) right.0 climbs.0 fits
    ∙ ap (λ (t : List ℕ). message_text P M ++ t) (messages_mean P real Ms right.1 climbs.1
    (IsBytes-back (compact_message P M) (flat_map (compact_message P) Ms) fits))
