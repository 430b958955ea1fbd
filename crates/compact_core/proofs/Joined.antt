-- Compact bytes in pieces.
use Rattle.std.proofs.Common.{◌≡◌, ℕ, zero, suc, ◌+◌, ◌≤◌, ◌<◌, List, [], ◌∷◌, ◌++◌, Bool, true, false, Option, Some}
use Rattle.std.proofs.Common.{None}
use Rattle.std.proofs.Common.{refl, sym, ap, subst, ◌∙◌, append_assoc, append-nil, arith, length, drop, length-append}
use Rattle.std.proofs.Common.{inl, inr}
use Rattle.std.specs.Prelude.{◌⊎◌, flat_map, OnOk, Result, Ok, Err}
use Rattle.std.specs.declared.alloc.AllocError.{AllocError}
use Rattle.definitions.specs.Items.{IsBytes}
use Rattle.definitions.specs.Wire.{Profile, Event, event_text, frame}
use Rattle.definitions.specs.Compact.{units_text}
use Rattle.definitions.specs.Packing.{Unpacked, unpack, frames_of, after_units, begun_text, event_frame, faulty_body}
use Rattle.laws.specs.Compact.{IsFrom, PiecesAdd, UnpackingIsExact}
use Rattle.laws.proofs.Fields.{IsBytes-both}
use Rattle.compact_core.specs.Unpacking.{UnpackerState, stands, was_begun, frames_anew, frames_after, state_anew}
use Rattle.compact_core.specs.Unpacking.{state_after}

frame_some : (body : List ℕ) → 0 < length (frame body)
frame_some body = omega arith

-- units, a fault or what is kept have frames
frames_some : {F : Type 0} (P : Profile F) (es : List (Event F)) (fault : Option ℕ) (kept : List ℕ) →
    (es ≡ [] → fault ≡ None → 0 < length kept) → 0 < length (flat_map (event_frame P) es ++ after_units fault kept)
frames_some P [] None [] some = absurd (let less = some refl refl in omega arith)
frames_some P [] None (b ∷ kept) some = omega arith
frames_some P [] (Some code) kept some = frame_some (faulty_body code)
frames_some P (e ∷ es) fault kept some =
    let own = frame_some (event_text P e) in
    let a = length-append (event_frame P e ++ flat_map (event_frame P) es) (after_units fault kept) in
    let b = length-append (event_frame P e) (flat_map (event_frame P) es) in
    omega arith

frames_of_some : {F : Type 0} (P : Profile F) → UnpackingIsExact P → (z : Option (List ℕ)) → IsFrom z →
    (bytes : List ℕ) → IsBytes bytes → 0 < length bytes → 0 < length (frames_of P z bytes)
frames_of_some {F} P exact z from bytes fits some =
    let u : Unpacked F = unpack P z bytes in
    let (units, to, left, whole, ends) = exact z from bytes fits in
    frames_some P u.events u.fault u.kept (λ none sound. elim ends [
      | inl h ↦
          let all : bytes ≡ u.kept =
          whole ∙ ap (λ es. units_text P z es ++ left) none ∙ sym h.1 in
          subst (λ (t : List ℕ). 0 < length t) all some
      | inr h ↦ absurd (let f = h.1 in cc)
    ])

begun_length : (kept : List ℕ) → length (begun_text kept) ≡ was_begun kept
begun_length [] = refl
begun_length (b ∷ kept) = refl

drop_front : (n : ℕ) (x y : List ℕ) → n ≤ 1 → (0 < n → 0 < length x) → drop n (x ++ y) ≡ drop n x ++ y
drop_front zero x y few some = refl
drop_front (suc zero) [] y few some = absurd (let less = some (omega arith) in omega arith)
drop_front (suc zero) (b ∷ x) y few some = refl
drop_front (suc (suc n)) x y few some = absurd (omega arith)

begun_few : (kept : List ℕ) → was_begun kept ≤ 1
begun_few [] = omega arith
begun_few (b ∷ kept) = omega arith

begun_some : (kept piece : List ℕ) → 0 < was_begun kept → 0 < length (kept ++ piece)
begun_some [] piece some = absurd (omega arith)
begun_some (b ∷ kept) piece some = omega arith

-- where no fault is found in the piece, and where one is
no_fault_join : {F : Type 0} (P : Profile F) → PiecesAdd P → UnpackingIsExact P → (to : Option (List ℕ))
    (kept piece more : List ℕ) → IsFrom to → IsBytes (kept ++ piece) → IsBytes more →
    (unpack P to (kept ++ piece)).fault ≡ None → (let u = unpack P to (kept ++ piece) in
    frames_anew P None to kept (piece ++ more)
    ≡ frames_anew P None to kept piece ++ frames_anew P None u.to u.kept more)
no_fault_join {F} P adds exact to kept piece more from fits h none =
    let u : Unpacked F = unpack P to (kept ++ piece) in
    let front : List ℕ = frames_of P to (kept ++ piece) in
    let next : List ℕ = frames_of P u.to (u.kept ++ more) in
    ap (λ (t : List ℕ). drop (was_begun kept) (frames_of P to t)) (sym (append_assoc kept piece more))
    ∙ ap (drop (was_begun kept)) (((adds to from (kept ++ piece) more fits h).0 none).0)
    ∙ ap (λ n. drop (was_begun kept) (front ++ drop n next)) (begun_length u.kept)
    ∙ drop_front (was_begun kept) front (drop (was_begun u.kept) next) (begun_few kept)
    (λ some. frames_of_some P exact to from (kept ++ piece) fits (begun_some kept piece some))

fault_join : {F : Type 0} (P : Profile F) → PiecesAdd P → (to : Option (List ℕ)) (kept piece more : List ℕ) →
    IsFrom to → IsBytes (kept ++ piece) → IsBytes more → (code : ℕ) → (unpack P to (kept ++ piece)).fault ≡ Some code →
    frames_anew P None to kept (piece ++ more) ≡ frames_anew P None to kept piece ++ []
fault_join P adds to kept piece more from fits h code found =
    ap (λ (t : List ℕ). drop (was_begun kept) (frames_of P to t)) (sym (append_assoc kept piece more))
    ∙ ap (drop (was_begun kept)) ((adds to from (kept ++ piece) more fits h).1 code found)
    ∙ sym (append-nil (frames_anew P None to kept piece))

anew_join : {F : Type 0} (P : Profile F) → PiecesAdd P → UnpackingIsExact P → (fault : Option ℕ) (to : Option (List ℕ))
    (kept piece more : List ℕ) → IsFrom to → IsBytes kept → IsBytes piece → IsBytes more →
    frames_anew P fault to kept (piece ++ more)
    ≡ frames_anew P fault to kept piece ++ frames_after P (state_anew P fault to kept piece) more
anew_join P adds exact (Some code) to kept piece more from f g h = refl
anew_join {F} P adds exact None to kept piece more from f g h = cases u.fault refl where
  u : Unpacked F
  u = unpack P to (kept ++ piece)

  cases : (fault : Option ℕ) → u.fault ≡ fault → frames_anew P None to kept (piece ++ more)
      ≡ frames_anew P None to kept piece ++ frames_anew P u.fault u.to u.kept more
  cases None is =
      no_fault_join P adds exact to kept piece more from (IsBytes-both kept piece f g) h is
      ∙ ap (λ f. frames_anew P None to kept piece ++ frames_anew P f u.to u.kept more) (sym is)
  cases (Some code) is =
      fault_join P adds to kept piece more from (IsBytes-both kept piece f g) h code is
      ∙ ap (λ f. frames_anew P None to kept piece ++ frames_anew P f u.to u.kept more) (sym is)

-- what a piece and more bytes mean is what the piece means, and then more
pub frames_join : {F : Type 0} (P : Profile F) → PiecesAdd P → UnpackingIsExact P → (old : UnpackerState)
    (piece more : List ℕ) → IsFrom old.to → IsBytes old.kept → IsBytes piece → IsBytes more →
    frames_after P old (piece ++ more) ≡ frames_after P old piece ++ frames_after P (state_after P old piece) more
frames_join P adds exact old piece more from f g h =
    anew_join P adds exact old.fault old.to old.kept piece more from f g h

pub nothing_more : (x y : List ℕ) → x ≡ x ++ y → y ≡ []
nothing_more x [] e = refl
nothing_more x (b ∷ y) e = absurd (omega (arith, ap length e, length-append x (b ∷ y)))

-- all that has come was said
pub frames_rest : {F : Type 0} (P : Profile F) → PiecesAdd P → UnpackingIsExact P → (old : UnpackerState)
    (piece : List ℕ) → IsFrom old.to → IsBytes old.kept → IsBytes piece →
    frames_after P (state_after P old piece) [] ≡ []
frames_rest P adds exact old piece from f g =
    let join = frames_join P adds exact old piece [] from f g tt in
    nothing_more (frames_after P old piece) (frames_after P (state_after P old piece) [])
    (ap (frames_after P old) (sym (append-nil piece)) ∙ join)

pub joined_by : {F : Type 0} (P : Profile F) → PiecesAdd P → UnpackingIsExact P → (old new : UnpackerState)
    (piece : List ℕ) (r : Result (Unit {0}) AllocError) → IsFrom old.to → IsBytes old.kept → IsBytes piece →
    OnOk r (new ≡ state_after P old piece) → OnOk r ((more : List ℕ) → IsBytes more →
    frames_after P old (piece ++ more) ≡ frames_after P old piece ++ frames_after P new more)
joined_by P adds exact old new piece (Ok done) from f g is = λ more h.
    frames_join P adds exact old piece more from f g h
    ∙ ap (λ (s : UnpackerState). frames_after P old piece ++ frames_after P s more) (sym is)
joined_by P adds exact old new piece (Err e) from f g is = tt

pub rests_by : {F : Type 0} (P : Profile F) → PiecesAdd P → UnpackingIsExact P → (old new : UnpackerState)
    (piece : List ℕ) (r : Result (Unit {0}) AllocError) → IsFrom old.to → IsBytes old.kept → IsBytes piece →
    OnOk r (new ≡ state_after P old piece) → OnOk r (frames_after P new [] ≡ [])
rests_by P adds exact old new piece (Ok done) from f g is =
    ap (λ (s : UnpackerState). frames_after P s []) is ∙ frames_rest P adds exact old piece from f g
rests_by P adds exact old new piece (Err e) from f g is = tt
