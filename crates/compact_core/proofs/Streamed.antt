-- What a reader has left, while it is read.
use Rattle.std.proofs.Common.{◌≡◌, ℕ, zero, suc, ◌≤◌, ◌<◌, List, [], ◌∷◌, ◌++◌, Bool, true, false, Option, Some}
use Rattle.std.proofs.Common.{None}
use Rattle.std.proofs.Common.{Result, Ok, Err, refl, sym, ap, subst, ◌∙◌, append_assoc, length, take, drop, arith}
use Rattle.std.proofs.Common.{take-append-drop, length-append, length-drop}
use Rattle.std.specs.Prelude.{nat_lt, bytes_eq, min, if◌then◌else◌}
use Rattle.std.proofs.lemmas.Bool.{and_parts}
use Rattle.std.specs.Io.KnownBytes.{Keeps, Consumes, IsAtEnd, ReadConsumes}
use Rattle.definitions.proofs.Lemmas.{ltb-true, length-take-le}
use Rattle.definitions.specs.Items.{IsBytes}
use Rattle.definitions.specs.Wire.{Profile}
use Rattle.compact_core.specs.Unpacking.{UnpackerState, frames_after}
use Rattle.compact_core.specs.Openings.{OpeningState, due, opened}
use Rattle.compact_core.specs.Unpackings.{UnpackingState, are_bytes, left_of, unpacked_left}
use Rattle.compact_core.proofs.Opened.{hello_read, opened_other, opened_compact, opened_none}

bytes_are : (xs : List ℕ) → are_bytes xs ≡ true → IsBytes xs
bytes_are [] h = tt
bytes_are (x ∷ xs) h =
    let both = and_parts (nat_lt x 256) (are_bytes xs) h in
    (ltb-true _ _ both.0, bytes_are xs both.1)

rest_are : (xs ys : List ℕ) → are_bytes (xs ++ ys) ≡ true → are_bytes ys ≡ true
rest_are [] ys h = h
rest_are (x ∷ xs) ys h = rest_are xs ys (and_parts (nat_lt x 256) (are_bytes (xs ++ ys)) h).1

-- known bytes, where they are bytes
keeps_if : (b c : Bool) (x y : List ℕ) → (b ≡ true → (c ≡ true) × (y ≡ x)) →
    Keeps (if b then Some x else None) (if c then Some y else None)
keeps_if false c x y same = tt
keeps_if true false x y same = absurd (let wrong = (same refl).0 in cc)
keeps_if true true x y same = (same refl).1

consumes_if : (b c : Bool) (x y given : List ℕ) → (b ≡ true → (c ≡ true) × (x ≡ given ++ y)) →
    Consumes (if b then Some x else None) (if c then Some y else None) given
consumes_if false c x y given same = tt
consumes_if true false x y given same = absurd (let wrong = (same refl).0 in cc)
consumes_if true true x y given same = (same refl).1

-- nothing was read
left_kept : {F : Type 0} (P : Profile F) (s : OpeningState) (piece ready : List ℕ) (b c : Option (List ℕ)) →
    Keeps b c → Keeps (left_of P s piece ready b) (left_of P s piece ready c)
left_kept P s piece ready None c e = tt
left_kept P s piece ready (Some xs) None e = absurd e
left_kept P s piece ready (Some xs) (Some ys) e = keeps_if (are_bytes xs) (are_bytes ys) _ _
    (λ h. (
      ap are_bytes e ∙ h,
      ap (λ (t : List ℕ). ready ++ opened P s (piece ++ t)) e,
    ))

-- bytes of the hello were read
hello_left : {F : Type 0} (P : Profile F) (s : OpeningState) (got : List ℕ) (b c : Option (List ℕ)) →
    length got ≤ due s → Consumes b c got →
    Consumes (left_of P s [] [] b) (left_of P (record { hello = s.hello ++ got; unpacker = s.unpacker }) [] [] c) got
hello_left P s got None c le e = tt
hello_left P s got (Some xs) None le e = absurd e
hello_left P s got (Some xs) (Some ys) le e = consumes_if (are_bytes xs) (are_bytes ys) _ _ got
    (λ h. (
      rest_are got ys (ap are_bytes (sym e) ∙ h),
      ap (λ (t : List ℕ). opened P s t) e ∙ hello_read P s got ys le,
    ))

-- bytes after another hello were read
other_consumes : {F : Type 0} (P : Profile F) (s : OpeningState) (got : List ℕ) (b c : Option (List ℕ)) →
    due s ≡ 0 → bytes_eq s.hello P.hello ≡ false → Consumes b c got →
    Consumes (left_of P s [] [] b) (left_of P s [] [] c) got
other_consumes P s got None c none other e = tt
other_consumes P s got (Some xs) None none other e = absurd e
other_consumes P s got (Some xs) (Some ys) none other e = consumes_if (are_bytes xs) (are_bytes ys) _ _ got
    (λ h. (
      rest_are got ys (ap are_bytes (sym e) ∙ h),
      opened_other P s xs none other ∙ e ∙ ap (λ (t : List ℕ). got ++ t) (sym (opened_other P s ys none other)),
    ))

-- a piece was unpacked
unpacked_keeps : {F : Type 0} (P : Profile F) → length P.hello ≡ 4 → (hello : List ℕ) (old new : UnpackerState)
    (piece ready : List ℕ) (b : Option (List ℕ)) → bytes_eq hello P.hello ≡ true → ((more : List ℕ) → IsBytes more →
    frames_after P old (piece ++ more) ≡ frames_after P old piece ++ frames_after P new more) →
    ready ≡ frames_after P old piece →
    Keeps (left_of P (record { hello = hello; unpacker = old }) piece [] b)
    (left_of P (record { hello = hello; unpacker = new }) [] ready b)
unpacked_keeps P four hello old new piece ready None same joins is = tt
unpacked_keeps P four hello old new piece ready (Some xs) same joins is = keeps_if (are_bytes xs) (are_bytes xs) _ _
    (λ h. (
      h,
      (λ i. is i ++ opened_compact P four (record { hello = hello; unpacker = new }) xs same i)
          ∙ sym (joins xs (bytes_are xs h))
          ∙ sym (opened_compact P four (record { hello = hello; unpacker = old }) (piece ++ xs) same),
    ))

-- nothing is left
ended_left : {F : Type 0} (P : Profile F) (s : OpeningState) (b : Option (List ℕ)) →
    frames_after P s.unpacker [] ≡ [] → IsAtEnd b → IsAtEnd (left_of P s [] [] b)
ended_left P s None rests end = tt
ended_left P s (Some xs) rests end =
    subst (λ (t : List ℕ). IsAtEnd (left_of P s [] [] (Some t))) (sym end) (opened_none P s rests)

other_left : {F E : Type 0} (P : Profile F) (s : OpeningState) (b c : Option (List ℕ)) (r : Result ℕ E)
    (room : List ℕ) → due s ≡ 0 → bytes_eq s.hello P.hello ≡ false → frames_after P s.unpacker [] ≡ [] →
    ReadConsumes b c r room → ReadConsumes (left_of P s [] [] b) (left_of P s [] [] c) r room
other_left P s b c (Ok n) room none other rests (took, end) = (
  other_consumes P s (take n room) b c none other took,
  λ count some. ended_left P s c rests (end count some),
)
other_left P s b c (Err e) room none other rests kept = left_kept P s [] [] b c kept

-- so many bytes of those that are ready were given
given_left : {F : Type 0} (P : Profile F) (s : OpeningState) (piece ready given left : List ℕ) (b : Option (List ℕ)) →
    ready ≡ given ++ left → Consumes (left_of P s piece ready b) (left_of P s piece left b) given
given_left P s piece ready given left None is = tt
given_left P s piece ready given left (Some xs) is = cases (are_bytes xs) where
  cases : (h : Bool) → Consumes (if h then Some (ready ++ opened P s (piece ++ xs)) else None)
      (if h then Some (left ++ opened P s (piece ++ xs)) else None) given
  cases false = tt
  cases true =
      ap (λ (t : List ℕ). t ++ opened P s (piece ++ xs)) is ∙ append_assoc given left (opened P s (piece ++ xs))

take_front : (n : ℕ) (room rest : List ℕ) → n ≤ length room → take n (room ++ rest) ≡ take n room
take_front zero room rest le = refl
take_front (suc n) [] rest le = absurd (omega arith)
take_front (suc n) (x ∷ room) rest le = ap (λ (t : List ℕ). x ∷ t) (take_front n room rest (omega arith))

-- bytes of the hello were read into the front of a buffer
heard_left : {F : Type 0} (P : Profile F) (s : OpeningState) (heard : List ℕ) (b c : Option (List ℕ)) (n m : ℕ)
    (room buf : List ℕ) → 0 < due s → frames_after P s.unpacker [] ≡ [] → length room ≡ m →
    m ≡ min (due s) (length buf) → n ≤ length room → heard ≡ s.hello ++ take n (room ++ drop m buf) →
    Consumes b c (take n room) × (n ≡ 0 → 0 < length room → IsAtEnd c) →
    (let new = left_of P (record { hello = heard; unpacker = s.unpacker }) [] [] c in
    let all = room ++ drop m buf in
    Consumes (left_of P s [] [] b) new (take n all) × (n ≡ 0 → 0 < length all → IsAtEnd new))
heard_left P s heard b c n m room buf some rests size most le is (took, end) =
    let short : length (take n room) ≤ due s = omega (arith, size, le, length-take-le n room le) in
    let all = length-append room (drop m buf) in
    let rest = length-drop m buf in
    let own : heard ≡ s.hello ++ take n room =
    is ∙ ap (λ (t : List ℕ). s.hello ++ t) (take_front n room (drop m buf) le) in (
      subst (λ (t : List ℕ). Consumes (left_of P s [] [] b)
          (left_of P (record { hello = heard; unpacker = s.unpacker }) [] [] c) t)
          (sym (take_front n room (drop m buf) le))
          (subst (λ (h : List ℕ). Consumes (left_of P s [] [] b)
          (left_of P (record { hello = h; unpacker = s.unpacker }) [] [] c) (take n room)) (sym own)
          (hello_left P s (take n room) b c short took)),
      λ count room_some.
          ended_left P (record { hello = heard; unpacker = s.unpacker }) c rests (end count (omega arith)),
    )

kept_consumes : (a b c : Option (List ℕ)) (bs : List ℕ) → Keeps a b → Consumes b c bs → Consumes a c bs
kept_consumes None b c bs p q = tt
kept_consumes (Some x) None c bs p q = absurd p
kept_consumes (Some x) (Some y) None bs p q = absurd q
kept_consumes (Some x) (Some y) (Some z) bs p q = sym p ∙ q

-- frames that are ready were handed on
given_read : {F : Type 0} (P : Profile F) (a : Option (List ℕ)) (s : OpeningState) (piece ready : List ℕ)
    (b : Option (List ℕ)) (n : ℕ) (old new : List ℕ) → Keeps a (left_of P s piece ready b) → 0 < length ready →
    n ≡ min (length ready) (length old) → take n new ≡ take n ready → length new ≡ length old →
    (let left = left_of P s piece (drop n ready) b in
    Consumes a left (take n new) × (n ≡ 0 → 0 < length new → IsAtEnd left))
given_read P a s piece ready b n old new kept some count given room = (
  kept_consumes a _ _ (take n new) kept (given_left P s piece ready (take n new) (drop n ready) b
      (sym (take-append-drop n ready) ∙ ap (λ (t : List ℕ). t ++ drop n ready) (sym given))),
  λ none some_room. absurd (omega arith),
)

-- what holds of each reader: all that has come was said, and without the compact hello nothing waits
abbrev AllSaid : {F : Type 0} → Profile F → OpeningState → List ℕ → List ℕ → Type 0
AllSaid P s piece ready =
    (frames_after P s.unpacker [] ≡ []) × (bytes_eq s.hello P.hello ≡ false → (piece ≡ []) × (ready ≡ []))

module _ {F R : Type 0} (P : Profile F) (left : R → Option (List ℕ)) (old : UnpackingState R) (reader : R)
    (s : OpeningState) (piece ready : List ℕ)
    (is : record { reader = reader; opening = s; piece = piece; ready = ready } ≡ old) where
  nothing_waits : bytes_eq old.opening.hello P.hello ≡ false → AllSaid P s piece ready → (piece ≡ []) × (ready ≡ [])
  nothing_waits other said = said.1 (ap (λ (u : UnpackingState R). bytes_eq u.opening.hello P.hello) is ∙ other)

  pub plain_read : {E : Type 0} (c : Option (List ℕ)) (r : Result ℕ E) (room : List ℕ) →
      bytes_eq old.opening.hello P.hello ≡ false → AllSaid P s piece ready → due s ≡ 0 →
      ReadConsumes (left reader) c r room →
      ReadConsumes (unpacked_left P old (left old.reader)) (left_of P s piece ready c) r room
  plain_read c r room other said none read =
      let waits = nothing_waits other said in
      let own = ap (λ (u : UnpackingState R). bytes_eq u.opening.hello P.hello) is ∙ other in
      subst (λ (u : UnpackingState R). ReadConsumes (unpacked_left P u (left u.reader)) (left_of P s piece ready c) r
      room) is
      (subst (λ (t : List ℕ). ReadConsumes (left_of P s t ready (left reader)) (left_of P s t ready c) r room)
      (sym waits.0)
      (subst (λ (t : List ℕ). ReadConsumes (left_of P s [] t (left reader)) (left_of P s [] t c) r room) (sym waits.1)
      (other_left P s (left reader) c r room none own said.0 read)))

  pub opening_read : (heard : List ℕ) (c : Option (List ℕ)) (n m : ℕ) (room buf : List ℕ) →
      bytes_eq old.opening.hello P.hello ≡ false → AllSaid P s piece ready → 0 < due s → length room ≡ m →
      m ≡ min (due s) (length buf) → n ≤ length room → heard ≡ s.hello ++ take n (room ++ drop m buf) →
      Consumes (left reader) c (take n room) × (n ≡ 0 → 0 < length room → IsAtEnd c) →
      (let new = left_of P (record { hello = heard; unpacker = s.unpacker }) piece ready c in
      let all = room ++ drop m buf in
      Consumes (unpacked_left P old (left old.reader)) new (take n all) × (n ≡ 0 → 0 < length all → IsAtEnd new))
  opening_read heard c n m room buf other said some size most le hears read =
      let waits = nothing_waits other said in
      let state : OpeningState = record { hello = heard; unpacker = s.unpacker } in
      let all : List ℕ = room ++ drop m buf in
      subst (λ (u : UnpackingState R). Consumes (unpacked_left P u (left u.reader)) (left_of P state piece ready c)
      (take n all) × (n ≡ 0 → 0 < length all → IsAtEnd (left_of P state piece ready c))) is
      (subst (λ (t : List ℕ). Consumes (left_of P s t ready (left reader)) (left_of P state t ready c) (take n all)
      × (n ≡ 0 → 0 < length all → IsAtEnd (left_of P state t ready c))) (sym waits.0)
      (subst (λ (t : List ℕ). Consumes (left_of P s [] t (left reader)) (left_of P state [] t c) (take n all)
      × (n ≡ 0 → 0 < length all → IsAtEnd (left_of P state [] t c))) (sym waits.1)
      (heard_left P s heard (left reader) c n m room buf some said.0 size most le hears read)))

  pub piece_unpacked : length P.hello ≡ 4 → (new : UnpackerState) (fresh said after : List ℕ) →
      (old.ready ≡ []) × (bytes_eq old.opening.hello P.hello ≡ true) → said ≡ piece → after ≡ [] →
      ((more : List ℕ) → IsBytes more →
      frames_after P s.unpacker (said ++ more) ≡ frames_after P s.unpacker said ++ frames_after P new more) →
      fresh ≡ frames_after P s.unpacker said →
      Keeps (unpacked_left P old (left old.reader))
      (left_of P (record { hello = s.hello; unpacker = new }) after fresh (left reader))
  piece_unpacked four new fresh said after (none, same) whole gone joins all =
      let own = ap (λ (u : UnpackingState R). bytes_eq u.opening.hello P.hello) is ∙ same in
      let state : OpeningState = record { hello = s.hello; unpacker = new } in
      let b = left reader in
      subst (λ (u : UnpackingState R). Keeps (unpacked_left P u (left u.reader)) (left_of P state after fresh b)) is
      (subst (λ (t : List ℕ). Keeps (left_of P s t ready b) (left_of P state after fresh b)) whole
      (subst (λ (t : List ℕ). Keeps (left_of P s said t b) (left_of P state after fresh b))
      (sym (ap (λ (u : UnpackingState R). u.ready) is ∙ none))
      (subst (λ (t : List ℕ). Keeps (left_of P s said [] b) (left_of P state t fresh b)) (sym gone)
      (unpacked_keeps P four s.hello s.unpacker new said fresh b own joins all))))

some_length : (xs : List ℕ) → (xs ≡ [] → ⊥) → 0 < length xs
some_length [] some = absurd (some refl)
some_length (x ∷ xs) some = omega arith

pub frames_read : {F R : Type 0} (P : Profile F) (left : R → Option (List ℕ)) (a : Option (List ℕ))
    (old new : UnpackingState R) (n : ℕ) (buf room : List ℕ) → Keeps a (unpacked_left P old (left old.reader)) →
    (old.ready ≡ [] → ⊥) → n ≡ min (length old.ready) (length buf) → take n room ≡ take n old.ready →
    length room ≡ length buf → new ≡ record old { ready = drop n old.ready } →
    Consumes a (unpacked_left P new (left new.reader)) (take n room)
    × (n ≡ 0 → 0 < length room → IsAtEnd (unpacked_left P new (left new.reader)))
frames_read {F} {R} P left a old new n buf room kept some count given size is =
    subst (λ (u : UnpackingState R). Consumes a (unpacked_left P u (left u.reader)) (take n room)
    × (n ≡ 0 → 0 < length room → IsAtEnd (unpacked_left P u (left u.reader)))) (sym is)
    (given_read P a old.opening old.piece old.ready (left old.reader) n buf room kept (some_length old.ready some) count
    given size)
