-- Frames, and one message.
-- A frame is a length n and n bytes. Bytes are a whole frame and a rest, or a beginning of a frame, or they begin with
-- a length that none can have; never two of these. With the body (Bodies) this says what is next in a stream, after
-- any number of parts: an event and the rest, or no whole frame yet, or a fault (`event_at_told`).
-- One message: read what is next again and again until the end of the message, and then nothing may be left. Each step
-- takes at least one byte, so the number of bytes is enough fuel. By induction on it, in both directions: what is read
-- is spelled so, and what is spelled so is read; a fault comes after right parts only, and is the first thing that is
-- wrong.
-- No spelling begins another: both messages are read from the same bytes, the first is whole where it ends, and
-- reading finds one message only.
-- docs/LAWS.md: Reading is exact; No spelling begins another.
use Rattle.std.proofs.Common.{◌≡◌, ℕ, ◌^◌, ◌<◌, ◌≤◌, Bool, true, false, not, ◌||◌, List, [], ◌∷◌, ◌++◌, length, take}
use Rattle.std.proofs.Common.{drop, Option, Some, None, Result, Ok, refl, sym, ap, subst, ◌∙◌, arith, inl, inr, zero}
use Rattle.std.proofs.Common.{suc, ◌+◌, Err, append_assoc}
use Rattle.std.specs.Prelude.{◌⊎◌, ◌==◌, nat_lt, ⊤, if◌then◌else◌, flat_map}
use Rattle.definitions.proofs.Words.{w32, from_be_bytes, AllByRecursion, IsBytes, IsItem, IsLower, IsUpper, Part}
use Rattle.definitions.proofs.Words.{Message, Profile, body, frame, max_body, max_parts, count_text, Event, Came, Ended}
use Rattle.definitions.proofs.Words.{Failed, Input, IsProfile, event_text, Says, Counts, part_text, end_text}
use Rattle.definitions.proofs.Words.{message_text, IsPart, Spells, One_message, short_text, upper_text, Begins}
use Rattle.definitions.proofs.Words.{IsBodyLength, IsPartial, FaultyBody, FaultyFrame, Stands, Trails, FaultyMessage}
use Rattle.definitions.proofs.Words.{NoLower, NoUpper, NoItem, IsCount, Stops, unless, bytes_at, event_in, frame_of}
use Rattle.definitions.proofs.Words.{frame_at, counted_event, event_of, event_at, lower_at, upper_at, text_at}
use Rattle.definitions.proofs.Words.{number_at, frame_length, too_many_parts, truncated, trailing, message_by}
use Rattle.definitions.proofs.Words.{message_from, message_in}
use Rattle.definitions.proofs.Lemmas.{common_steps, length-append, ltb-true, ltb-false, le-ltb, eqb-true, lt-ltb}
use Rattle.definitions.proofs.Lemmas.{length-take-le, take-append-drop, append-nil, from_be_bytes-to_be_bytes_4}
use Rattle.definitions.specs.Reading.{◌>>=◌}
use Rattle.laws.specs.Codec.{Exactly, FieldIsExact, BodyIsExact, NextIsExact, MessageIsExact}
use Rattle.laws.proofs.Fields.{Tells, as_told, by_test, told_ok, told_err, read_ok, ok_is, rest_fits}
use Rattle.laws.proofs.Fields.{IsBytes-front, some_bytes, neq_of, read_err, good_of, bad_of, lower_field}
use Rattle.laws.proofs.Fields.{upper_field, item_field, count_field}
use Rattle.laws.proofs.Bodies.{event_told, or_cases, or_none}

-- ==== A frame, the event that stands next, and one message

-- ---- frames

abbrev FrameGood : List ℕ → Option (List ℕ × List ℕ) → Type 0
FrameGood bytes None = IsPartial bytes
FrameGood bytes (Some p) = IsBodyLength (length p.0) × (bytes ≡ frame p.0 ++ p.1)

abbrev BadLength : ℕ → Type 0
BadLength n = (n ≡ 0) ⊎ ((max_body < n) × (n < 2 ^ 32))

abbrev FrameBad : List ℕ → ℕ → Type 0
FrameBad bytes code = Begins count_text BadLength (λ n rest. code ≡ frame_length) bytes

abbrev OfGood : ℕ → List ℕ → Option (List ℕ × List ℕ) → Type 0
OfGood n rest None = IsBodyLength n × (length rest < n)
OfGood n rest (Some p) = IsBodyLength n × (length p.0 ≡ n) × (rest ≡ p.0 ++ p.1)

out_of_length : (n : ℕ) (rest : List ℕ) → (n ≡ 0) ⊎ (max_body < n) → (z : Option (List ℕ × List ℕ)) → OfGood n rest z →
    ⊥
out_of_length n rest out z g = grind arith

in_length : (n : ℕ) → IsBodyLength n → (n ≡ 0) ⊎ (max_body < n) → ⊥
in_length n h out = let a = h.0 in let b = h.1 in elim out [ inl x ↦ omega arith | inr x ↦ omega arith ]

of_none : (n : ℕ) (rest : List ℕ) → length rest < n → (z : Option (List ℕ × List ℕ)) → OfGood n rest z → None ≡ z
of_none n rest lt z g = grind (arith, length-append)

of_some : (n : ℕ) (rest : List ℕ) → n ≤ length rest → (z : Option (List ℕ × List ℕ)) → OfGood n rest z →
    Some (take n rest, drop n rest) ≡ z
of_some n rest le None g = absurd (let lt = g.1 in omega arith)
of_some n rest le (Some p) g = ap (λ q. Some q) (pair_is n rest p ((some_bytes n rest).good p (g.1, g.2)) le) where
  pair_is : (n : ℕ) (rest : List ℕ) (p : List ℕ × List ℕ) → bytes_at n rest ≡ Ok p → n ≤ length rest →
      (take n rest, drop n rest) ≡ p
  pair_is n rest p e le = let f = le-ltb (length rest) n le in
      let t : unless false frame_length (take n rest, drop n rest) ≡ Ok p =
      ap (λ b. unless b frame_length (take n rest, drop n rest)) (sym f) ∙ e in ok_is _ _ t

of_told : (n : ℕ) (rest : List ℕ) →
    Tells ⊤ (frame_of n rest) (OfGood n rest) (λ e. ((n ≡ 0) ⊎ (max_body < n)) × (e ≡ frame_length))
of_told n rest = by_test (n == 0 || nat_lt max_body n)
    (λ h. let out : (n ≡ 0) ⊎ (max_body < n) = elim (or_cases (n == 0) (nat_lt max_body n) h) [
      | inl x ↦ inl (eqb-true _ _ x)
      | inr x ↦ inr (ltb-true _ _ x)
    ] in
    told_err _ frame_length _ _ (λ _. (out, refl)) (λ c b. sym b.1) (out_of_length n rest out))
    (λ h. grind (
      arith,
      or_none,
      neq_of,
      ltb-false,
      by_test,
      ltb-true,
      told_ok,
      of_none,
      in_length,
      length-take-le,
      take-append-drop,
      of_some,
    ))

abbrev number : List ℕ → ℕ
number bytes = from_be_bytes w32 (take 4 bytes)

counted_back : (bytes : List ℕ) (m : ℕ) (r : List ℕ) → m < 2 ^ 32 → bytes ≡ count_text m ++ r →
    (number bytes ≡ m) × (drop 4 bytes ≡ r)
counted_back bytes m r lt is = (ap number is ∙ from_be_bytes-to_be_bytes_4 m lt, ap (drop 4) is)

counted_text : (bytes : List ℕ) → IsBytes bytes → 4 ≤ length bytes →
    (number bytes < 2 ^ 32) × (bytes ≡ count_text (number bytes) ++ drop 4 bytes)
counted_text bytes fits le = grind arith

at_least_four : (bytes : List ℕ) (m : ℕ) (r : List ℕ) → bytes ≡ count_text m ++ r → 4 ≤ length bytes
at_least_four bytes m r is = let l = ap length is in let a = length-append (count_text m) r in omega arith

too_short : (bytes : List ℕ) → length bytes < 4 → (z : Option (List ℕ × List ℕ)) → FrameGood bytes z → None ≡ z
too_short bytes lt z g = grind arith

good_frame : (bytes : List ℕ) → 4 ≤ length bytes → IsBytes bytes → (z : Option (List ℕ × List ℕ)) →
    OfGood (number bytes) (drop 4 bytes) z → FrameGood bytes z
good_frame bytes le fits None g = inr (number bytes, drop 4 bytes, g.0, (counted_text bytes fits le).1, g.1)
good_frame bytes le fits (Some p) g = grind arith

frame_good : (bytes : List ℕ) → 4 ≤ length bytes → (z : Option (List ℕ × List ℕ)) → FrameGood bytes z →
    OfGood (number bytes) (drop 4 bytes) z
frame_good bytes le z g = grind arith

bad_lt : (n : ℕ) → BadLength n → n < 2 ^ 32
bad_lt n a = grind arith

frame_told : (bytes : List ℕ) → Tells (IsBytes bytes) (frame_at bytes) (FrameGood bytes) (FrameBad bytes)
frame_told bytes = by_test (nat_lt (length bytes) 4)
    (λ h. let lt : length bytes < 4 = ltb-true _ _ h in
    told_ok _ _ _ _ (λ _. inl lt) (too_short bytes lt) (λ e b. let l = at_least_four bytes b.0 b.1 b.3 in omega arith))
    (λ h. let le : 4 ≤ length bytes = ltb-false _ _ h in
    let t = of_told (number bytes) (drop 4 bytes) in
    record {
      total = λ fits. elim (t.total tt) [
        | inl p ↦ inl (p.0, good_frame bytes le fits p.0 p.1, p.2)
        | inr p ↦ let c = counted_text bytes fits le in let small = c.0 in inr
            (p.0, (number bytes, drop 4 bytes, elim p.1.0 [ inl x ↦ inl x | inr x ↦ inr (x, small) ], c.1, p.1.1), p.2)
      ];
      good = λ y g. t.good y (frame_good bytes le y g);
      bad = λ e b. let q = counted_back bytes b.0 b.1 (bad_lt b.0 b.2) b.3 in
          t.bad e (elim b.2 [ inl x ↦ inl (q.0 ∙ x) | inr x ↦ inr (subst (λ n. max_body < n) (sym q.0) x.0) ], b.4);
    })

-- ---- the event that stands next

-- what gave a value, and then what follows
then_told : {A B : Type 0} {Fits : Type 0} {r : Result A ℕ} {G : A → Type 0} {Bad : ℕ → Type 0} → Tells Fits r G Bad →
    (k : A → Result B ℕ) (Fits2 : A → Type 0) (G2 : A → B → Type 0) (B2 : A → ℕ → Type 0) →
    ((x : A) → Fits → G x → Fits2 x) → ((x : A) → G x → Tells (Fits2 x) (k x) (G2 x) (B2 x)) →
    Tells Fits (r >>= k) (λ y. (x : A) × G x × G2 x y) (λ e. Bad e ⊎ ((x : A) × G x × B2 x e))
then_told t k Fits2 G2 B2 fit goes = grind arith

text_some : {F : Type 0} (P : Profile F) (e : Event F) → 1 ≤ length (event_text P e)
text_some P e = grind arith

pub event_any : {F : Type 0} (P : Profile F) → IsProfile P → (input : Input) → (b : List ℕ) →
    Tells (IsBytes b) (event_in P input b) (Says P input b) (FaultyBody P input b)
event_any P real input b = grind (arith, told_err, text_some, event_told)

abbrev IsOver : {F : Type 0} → ℕ → Event F → Type 0
IsOver parts (Came p) = max_parts ≤ parts
IsOver parts Ended = ⊥
IsOver parts (Failed code) = ⊥

counted_told : {F : Type 0} (parts : ℕ) (more : List ℕ) (y : Event F) →
    Tells {B = Option (Event F × List ℕ)} ⊤ (counted_event parts y >>= (λ e. read_ok (Some (e, more))))
    (λ z. Counts parts y × (z ≡ Some (y, more))) (λ c. IsOver parts y × (c ≡ too_many_parts))
counted_told {F} parts more (Came p) = few (nat_lt parts max_parts) refl where
  few : (b : Bool) → nat_lt parts max_parts ≡ b → Tells {B = Option (Event F × List ℕ)} ⊤
      (unless (not b) too_many_parts (Came p) >>= (λ e. read_ok (Some (e, more))))
      (λ z. (parts < max_parts) × (z ≡ Some (Came p, more))) (λ c. (max_parts ≤ parts) × (c ≡ too_many_parts))
  few true h = let lt : parts < max_parts = ltb-true _ _ h in
      told_ok _ _ _ _ (λ _. (lt, refl)) (λ z g. sym g.1) (λ e b. let le = b.0 in omega arith)
  few false h = let le : max_parts ≤ parts = ltb-false _ _ h in
      told_err _ _ _ _ (λ _. (le, refl)) (λ c b. sym b.1) (λ z g. let lt = g.0 in omega arith)
counted_told parts more Ended = told_ok _ _ _ _ (λ _. (tt, refl)) (λ z g. sym g.1) (λ e b. b.0)
counted_told parts more (Failed code) = told_ok _ _ _ _ (λ _. (tt, refl)) (λ z g. sym g.1) (λ e b. b.0)

abbrev Frame : Type 0
Frame = Option (List ℕ × List ℕ)

abbrev FrameFits : Frame → Type 0
FrameFits None = ⊤
FrameFits (Some p) = IsBytes p.0

abbrev Next : Type 0 → Type 0
Next F = Option (Event F × List ℕ)

abbrev OfEvent : {F : Type 0} → Profile F → Input → ℕ → Frame → Next F → Type 0
OfEvent P input parts None y = y ≡ None
OfEvent {F} P input parts (Some p) y = (e : Event F) × Says P input p.0 e × (Counts parts e × (y ≡ Some (e, p.1)))

abbrev OfFault : {F : Type 0} → Profile F → Input → ℕ → Frame → ℕ → Type 0
OfFault P input parts None c = ⊥
OfFault {F} P input parts (Some p) c =
    FaultyBody P input p.0 c ⊎ ((e : Event F) × Says P input p.0 e × (IsOver parts e × (c ≡ too_many_parts)))

frame_fits : (bytes : List ℕ) (x : Frame) → IsBytes bytes → FrameGood bytes x → FrameFits x
frame_fits bytes None fits g = tt
frame_fits bytes (Some p) fits g =
    IsBytes-front p.0 p.1 (rest_fits bytes (count_text (length p.0)) (p.0 ++ p.1) g.1 fits)

event_of_told : {F : Type 0} (P : Profile F) → IsProfile P → (input : Input) →
    (parts : ℕ) (bytes : List ℕ) (x : Frame) → FrameGood bytes x →
    Tells (FrameFits x) (event_of P input parts x) (OfEvent P input parts x) (OfFault P input parts x)
event_of_told P real input parts bytes None g = told_ok _ _ _ _ (λ _. refl) (λ z h. sym h) (λ e b. b)
event_of_told P real input parts bytes (Some p) g =
    then_told (event_any P real input p.0) (λ read. counted_event parts read >>= (λ e. read_ok (Some (e, p.1))))
    (λ _. ⊤) _ _ (λ _ _ _. tt) (λ y _. counted_told parts p.1 y)

stands_of : {F : Type 0} (P : Profile F) (input : Input) (parts : ℕ) (bytes : List ℕ) (y : Next F) (x : Frame) →
    FrameGood bytes x → OfEvent P input parts x y → Stands P input parts bytes y
stands_of P input parts bytes y x g h = grind arith

of_stands : {F : Type 0} (P : Profile F) (input : Input) (parts : ℕ) (bytes : List ℕ) (y : Next F) →
    Stands P input parts bytes y → (x : Frame) × FrameGood bytes x × OfEvent P input parts x y
of_stands P input parts bytes None g = (None, g, refl)
of_stands P input parts bytes (Some e) g =
    (Some (event_text P e.0, e.1), ((text_some P e.0, g.1), g.3), (e.0, (g.0, refl), (g.2, refl)))

fault_to : {F : Type 0} (P : Profile F) (input : Input) (parts : ℕ) (bytes : List ℕ) (c : ℕ) (x : Frame) →
    FrameGood bytes x → OfFault P input parts x c → FaultyFrame P input parts bytes c
fault_to P input parts bytes c x g h = grind arith

fault_from : {F : Type 0} (P : Profile F) (input : Input) (parts : ℕ) (bytes : List ℕ) (c : ℕ) →
    FaultyFrame P input parts bytes c → FrameBad bytes c ⊎ ((x : Frame) × FrameGood bytes x × OfFault P input parts x c)
fault_from P input parts bytes c (inl b) = inl b
fault_from P input parts bytes c (inr (inl (b, rest, right, is, faulty))) =
    inr (Some (b, rest), (right, is), inl faulty)
fault_from P input parts bytes c (inr (inr (p, rest, right, is, (over, what)))) =
    inr
    (Some (body P p, rest), ((text_some P (Came p), right.short), is), inr (Came p, (right.fields, refl), (over, what)))

pub event_at_told : {F : Type 0} (P : Profile F) → IsProfile P → (input : Input) → (parts : ℕ) (bytes : List ℕ) →
    Tells (IsBytes bytes) (event_at P input parts bytes) (Stands P input parts bytes) (FaultyFrame P input parts bytes)
event_at_told P real input parts bytes =
    as_told (then_told (frame_told bytes) (event_of P input parts) FrameFits (OfEvent P input parts)
    (OfFault P input parts) (λ x fits g. frame_fits bytes x fits g) (λ x g. event_of_told P real input parts bytes x g))
    (λ f. f) (λ y f g. stands_of P input parts bytes y g.0 g.1 g.2) (λ y g. of_stands P input parts bytes y g)
    (λ e b. elim b [ inl x ↦ inl x | inr x ↦ fault_to P input parts bytes e x.0 x.1 x.2 ])
    (λ e b. fault_from P input parts bytes e b)

-- ==== One message and nothing else

-- the rest of a message, after so many parts
pub record IsTail {F : Type 0} (P : Profile F) (parts : ℕ) (bytes : List ℕ) (M : Message F) : Type 0 where
  pub count : parts + length M ≤ max_parts
  pub each : AllByRecursion (IsPart P) M
  pub is : bytes ≡ message_text P M

abbrev Place : {F : Type 0} → Profile F → ℕ → List ℕ → ℕ → Type 0
Place P n rest code = FaultyFrame P One_message n rest code
    ⊎ ((IsPartial rest × (code ≡ truncated)) ⊎ ((more : List ℕ) × (rest ≡ end_text ++ more) × Trails more code))

pub record FaultyTail {F : Type 0} (P : Profile F) (parts : ℕ) (bytes : List ℕ) (code : ℕ) : Type 0 where
  pub front : Message F
  pub rest : List ℕ
  pub count : parts + length front ≤ max_parts
  pub each : AllByRecursion (IsPart P) front
  pub is : bytes ≡ flat_map (part_text P) front ++ rest
  pub place : Place P (parts + length front) rest code

abbrev Tail : {F : Type 0} → Profile F → ℕ → List ℕ → Result (Message F) ℕ → Type 0
Tail {F} P parts bytes r =
    ((M : Message F) × IsTail P parts bytes M × (r ≡ Ok M)) ⊎ ((e : ℕ) × FaultyTail P parts bytes e × (r ≡ Err e))

plus_zero : (n : ℕ) → n + 0 ≡ n
plus_zero n = omega arith

here : {F : Type 0} (P : Profile F) (parts : ℕ) (bytes : List ℕ) (code : ℕ) → parts ≤ max_parts →
    Place P parts bytes code → FaultyTail P parts bytes code
here P parts bytes code le place = record {
  front = [];
  rest = bytes;
  count = (omega arith);
  each = tt;
  is = refl;
  place = subst (λ n. Place P n bytes code) (sym (plus_zero parts)) place;
}

part_then : {F : Type 0} (P : Profile F) (p : Part F) (ps : Message F) (rest : List ℕ) →
    flat_map (part_text P) (p ∷ ps) ++ rest ≡ part_text P p ++ (flat_map (part_text P) ps ++ rest)
part_then P p ps rest = append_assoc (part_text P p) (flat_map (part_text P) ps) rest

pub shorter : {F : Type 0} (P : Profile F) (p : Part F) (bytes rest : List ℕ) (fuel : ℕ) →
    bytes ≡ part_text P p ++ rest → length bytes < suc fuel → length rest < fuel
shorter P p bytes rest fuel is lt = let l = ap length is in let a = length-append (body P p) rest in omega arith

-- by what stands next
next_total : {F : Type 0} (P : Profile F) (parts : ℕ) (bytes : List ℕ) (more : List ℕ → Result (Message F) ℕ) →
    parts ≤ max_parts →
    ((p : Part F) (rest : List ℕ) → bytes ≡ part_text P p ++ rest → parts < max_parts →
    Tail P (parts + 1) rest (more rest)) →
    (y : Option (Event F × List ℕ)) → Stands P One_message parts bytes y → Tail P parts bytes (message_by (Ok y) more)
next_total P parts bytes more le goes None g =
    inr (truncated, here P parts bytes truncated le (inr (inl (g, refl))), refl)
next_total P parts bytes more le goes (Some (Came p, rest)) g =
    let part : IsPart P p = record { fields = g.0; short = g.1 } in
    elim (goes p rest g.3 g.2) [
      | inl q ↦ let t = q.1 in let c = t.count in
          inl (
            p ∷ q.0,
            record {
              count = (omega arith);
              each = (part, t.each);
              is = g.3 ∙ ap (λ (t : List ℕ). part_text P p ++ t) t.is ∙ sym (part_then P p q.0 end_text);
            },
            ap (λ r. r >>= (λ ps. read_ok (p ∷ ps))) q.2,
          )
      | inr q ↦ let t = q.1 in let c = t.count in
          let n : parts + 1 + length t.front ≡ parts + suc (length t.front) = omega arith in
          inr (
            q.0,
            record {
              front = p ∷ t.front;
              rest = t.rest;
              count = (omega arith);
              each = (part, t.each);
              is = g.3 ∙ ap (λ (t : List ℕ). part_text P p ++ t) t.is ∙ sym (part_then P p t.front t.rest);
              place = subst (λ n. Place P n t.rest q.0) n t.place;
            },
            ap (λ r. r >>= (λ ps. read_ok (p ∷ ps))) q.2,
          )
    ]
next_total P parts bytes more le goes (Some (Ended, [])) g =
    inl ([], record { count = (omega arith); each = tt; is = g.3 }, refl)
next_total P parts bytes more le goes (Some (Ended, b ∷ rest)) g =
    inr (
      trailing,
      here P parts bytes trailing le (inr (inr (b ∷ rest, g.3, (omega arith, refl)))),
      ap (λ t. if t then read_err trailing else read_ok []) (lt-ltb 0 (length (b ∷ rest)) (omega arith)),
    )
next_total P parts bytes more le goes (Some (Failed code, rest)) g = absurd g.0

pub message_total : {F : Type 0} (P : Profile F) → IsProfile P → (fuel parts : ℕ) (bytes : List ℕ) → IsBytes bytes →
    length bytes < fuel → parts ≤ max_parts → Tail P parts bytes (message_from P fuel parts bytes)
message_total P real zero parts bytes fits lt le = absurd (omega arith)
message_total {F} P real (suc fuel) parts bytes fits lt le =
    let t = event_at_told P real One_message parts bytes in
    let goes : (p : Part F) (rest : List ℕ) → bytes ≡ part_text P p ++ rest → parts < max_parts →
    Tail P (parts + 1) rest (message_from P fuel (parts + 1) rest) =
    λ p rest is few. message_total P real fuel (parts + 1) rest (rest_fits bytes (part_text P p) rest is fits)
    (shorter P p bytes rest fuel is lt) (omega arith) in
    elim (t.total fits) [
      | inl q ↦ subst (λ r. Tail P parts bytes (message_by r (message_from P fuel (parts + 1)))) (sym q.2)
          (next_total P parts bytes (message_from P fuel (parts + 1)) le goes q.0 q.1)
      | inr q ↦
          inr (q.0, here P parts bytes q.0 le (inl q.1), ap (λ r. message_by r (message_from P fuel (parts + 1))) q.2)
    ]

stand_part : {F : Type 0} (P : Profile F) (parts : ℕ) (bytes : List ℕ) (p : Part F) (rest : List ℕ) → IsPart P p →
    parts < max_parts → bytes ≡ part_text P p ++ rest → Stands P One_message parts bytes (Some (Came p, rest))
stand_part P parts bytes p rest h lt is = (h.fields, h.short, lt, is)

pub message_good : {F : Type 0} (P : Profile F) → IsProfile P → (fuel parts : ℕ) (bytes : List ℕ) →
    length bytes < fuel → (M : Message F) → IsTail P parts bytes M → message_from P fuel parts bytes ≡ Ok M
message_good P real zero parts bytes lt M t = absurd (omega arith)
message_good P real (suc fuel) parts bytes lt [] t = cc
message_good P real (suc fuel) parts bytes lt (p ∷ ps) t =
    let c = t.count in
    let is : bytes ≡ part_text P p ++ message_text P ps = t.is ∙ part_then P p ps end_text in
    ap (λ r. message_by r (message_from P fuel (parts + 1))) ((event_at_told P real One_message parts bytes).good
    (Some (Came p, message_text P ps)) (stand_part P parts bytes p (message_text P ps) t.each.0 (omega arith) is))
    ∙ ap (λ r. r >>= (λ ps. read_ok (p ∷ ps)))
    (message_good P real fuel (parts + 1) (message_text P ps) (shorter P p bytes (message_text P ps) fuel is lt) ps
    (record { count = (omega arith); each = t.each.1; is = refl }))

-- a fault where nothing right stands before it
fault_here : {F : Type 0} (P : Profile F) → IsProfile P → (fuel parts : ℕ) (bytes : List ℕ) (code : ℕ) →
    Place P parts bytes code → message_from P (suc fuel) parts bytes ≡ Err code
fault_here P real fuel parts bytes code (inl b) =
    ap (λ r. message_by r (message_from P fuel (parts + 1))) ((event_at_told P real One_message parts bytes).bad code b)
fault_here {F} P real fuel parts bytes code (inr (inl b)) =
    ap (λ r. message_by r (message_from P fuel (parts + 1)))
    ((event_at_told P real One_message parts bytes).good None b.0) ∙ ap (λ c. read_err {A = Message F} c) (sym b.1)
fault_here {F} P real fuel parts bytes code (inr (inr (more, is, trails))) =
    ap (λ r. message_by r (message_from P fuel (parts + 1)))
    ((event_at_told P real One_message parts bytes).good (Some (Ended, more)) (tt, omega arith, tt, is))
    ∙ ap (λ t. if t then read_err {A = Message F} trailing else read_ok []) (lt-ltb 0 (length more) trails.0)
    ∙ ap (λ c. read_err {A = Message F} c) (sym trails.1)

message_bad_on : {F : Type 0} (P : Profile F) → IsProfile P → (fuel parts : ℕ) (bytes : List ℕ) → length bytes < fuel →
    (code : ℕ) (front : Message F) (rest : List ℕ) →
    parts + length front ≤ max_parts → AllByRecursion (IsPart P) front → bytes ≡ flat_map (part_text P) front ++ rest →
    Place P (parts + length front) rest code → message_from P fuel parts bytes ≡ Err code
message_bad_on P real zero parts bytes lt code front rest c each is place = absurd (omega arith)
message_bad_on P real (suc fuel) parts bytes lt code [] rest c each is place =
    fault_here P real fuel parts bytes code (subst (λ n. Place P n bytes code) (plus_zero parts)
    (subst (λ (t : List ℕ). Place P (parts + 0) t code) (sym is) place))
message_bad_on P real (suc fuel) parts bytes lt code (p ∷ ps) rest c each is place =
    let after : List ℕ = flat_map (part_text P) ps ++ rest in
    let is2 : bytes ≡ part_text P p ++ after = is ∙ part_then P p ps rest in
    let n : parts + suc (length ps) ≡ parts + 1 + length ps = omega arith in
    ap (λ r. message_by r (message_from P fuel (parts + 1))) ((event_at_told P real One_message parts bytes).good
    (Some (Came p, after)) (stand_part P parts bytes p after each.0 (omega arith) is2))
    ∙ ap (λ r. r >>= (λ ps. read_ok (p ∷ ps)))
    (message_bad_on P real fuel (parts + 1) after (shorter P p bytes after fuel is2 lt) code ps rest
    (omega arith) each.1 refl (subst (λ n. Place P n rest code) n place))

-- the whole law
pub message_told : {F : Type 0} (P : Profile F) → IsProfile P → (bytes : List ℕ) →
    Tells (IsBytes bytes) (message_in P bytes) (λ M. Spells P M bytes) (FaultyMessage P bytes)
message_told {F} P real bytes = record {
  total = λ fits. elim (message_total P real (length bytes + 1) 0 bytes fits (omega arith) (omega arith)) [
    | inl q ↦ let t = q.1 in let c = t.count in inl (q.0, (record { count = (omega arith); parts = t.each }, t.is), q.2)
    | inr q ↦ let t = q.1 in let c = t.count in let n : 0 + length t.front ≡ length t.front = omega arith in
        inr (
          q.0,
          (
            t.front,
            t.rest,
            record { count = (omega arith); parts = t.each },
            t.is,
            subst (λ n. Place P n t.rest q.0) n t.place,
          ),
          q.2,
        )
  ];
  good = λ M g. let c = g.0.count in message_good P real (length bytes + 1) 0 bytes (omega arith) M
      (record { count = (omega arith); each = g.0.parts; is = g.1 });
  bad = λ e b. let c = b.2.count in let n : length b.0 ≡ 0 + length b.0 = omega arith in
      message_bad_on P real (length bytes + 1) 0 bytes (omega arith) e b.0 b.1 (omega arith) b.2.parts b.3
      (subst (λ n. Place P n b.1 e) n b.4);
}

-- no spelling begins another
no_more : (more : List ℕ) → (0 < length more → ⊥) → more ≡ []
no_more more h = grind (arith, common_steps)

pub spelling_alone : {F : Type 0} (P : Profile F) → IsProfile P → (M N : Message F) (bytes more : List ℕ) →
    Spells P M bytes → Spells P N (bytes ++ more) → (more ≡ []) × (M ≡ N)
spelling_alone {F} P real M N bytes more s t =
    let none : more ≡ [] = no_more more (λ lt.
    let faulty : FaultyMessage P (bytes ++ more) trailing = (
      M,
      end_text ++ more,
      s.0,
      ap (λ (b : List ℕ). b ++ more) s.1 ∙ append_assoc (flat_map (part_text P) M) end_text more,
      inr (inr (more, refl, (lt, refl))),
    ) in
    let no = (message_told P real (bytes ++ more)).bad trailing faulty in
    let yes = (message_told P real (bytes ++ more)).good N t in cc) in
    let same : bytes ++ more ≡ bytes = ap (λ (b : List ℕ). bytes ++ b) none ∙ append-nil bytes in (
      none,
      ok_is M N (sym ((message_told P real bytes).good M s) ∙ (message_told P real bytes).good N (t.0, sym same ∙ t.1)),
    )

-- ==== The laws as contracts state them

pub exactly : {B : Type 0} (bytes : List ℕ) (r : Result B ℕ) (Good : B → Type 0) (Bad : ℕ → Type 0) →
    Tells (IsBytes bytes) r Good Bad → Exactly bytes r Good Bad
exactly bytes r Good Bad t = (t.good, t.bad, λ fits. (good_of t fits, bad_of t fits))

pub lower_exact : FieldIsExact short_text IsLower NoLower lower_at
lower_exact bytes = exactly _ _ _ _ (lower_field.at bytes)

pub upper_exact : FieldIsExact upper_text IsUpper NoUpper upper_at
upper_exact bytes = exactly _ _ _ _ (upper_field.at bytes)

pub item_exact : FieldIsExact short_text IsItem NoItem text_at
item_exact bytes = exactly _ _ _ _ (item_field.at bytes)

pub count_exact : FieldIsExact count_text IsCount (Stops 4) number_at
count_exact bytes = exactly _ _ _ _ (count_field.at bytes)

pub body_exact : {F : Type 0} (P : Profile F) → IsProfile P → BodyIsExact P
body_exact P real input bytes = exactly bytes _ _ _ (event_any P real input bytes)

pub next_exact : {F : Type 0} (P : Profile F) → IsProfile P → NextIsExact P
next_exact P real input parts bytes = exactly _ _ _ _ (event_at_told P real input parts bytes)

pub message_exact : {F : Type 0} (P : Profile F) → IsProfile P → MessageIsExact P
message_exact P real bytes = exactly _ _ _ _ (message_told P real bytes)
