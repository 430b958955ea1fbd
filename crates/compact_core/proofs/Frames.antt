-- A frame takes bytes.
use Rattle.std.proofs.Common.{◌≡◌, ℕ, ◌+◌, ◌-◌, ◌≤◌, ◌<◌, List, [], ◌∷◌, length, take, drop, Bool, true, false}
use Rattle.std.proofs.Common.{Option, Some, None, Result, Ok, Err, refl, sym, ap, ◌∙◌, arith, length-drop}
use Rattle.std.specs.Prelude.{nat_lt, if◌then◌else◌, ◌==◌, ◌||◌}
use Rattle.std.specs.Int.{w32, from_be_bytes}
use Rattle.definitions.proofs.Lemmas.{ltb-false}
use Rattle.definitions.specs.Wire.{Profile, Event, Input, max_body}
use Rattle.definitions.specs.Refusals.{frame_length}
use Rattle.definitions.specs.Reading.{◌>>=◌, frame_of, frame_at, event_in, counted_event, event_of, event_at}
use Rattle.definitions.specs.CompactReading.{gives}
use Rattle.laws.proofs.CompactBounds.{given_is}

of_shorter : (n : ℕ) (bytes body rest : List ℕ) → frame_of n bytes ≡ Ok (Some (body, rest)) → length rest ≤ length bytes
of_shorter n bytes body rest e = cases (n == 0 || nat_lt max_body n) (nat_lt (length bytes) n) e where
  cases : (wrong short : Bool) → (if wrong then Err frame_length else if short then Ok None
      else gives (take n bytes) (drop n bytes)) ≡ gives body rest → length rest ≤ length bytes
  cases true short e = absurd cc
  cases false true e = absurd cc
  cases false false e =
      let same = (given_is (take n bytes) body (drop n bytes) rest e).1 in
      omega (arith, ap length same, length-drop n bytes)

frame_shorter : (bytes body rest : List ℕ) → frame_at bytes ≡ Ok (Some (body, rest)) → length rest < length bytes
frame_shorter bytes body rest e = cases (nat_lt (length bytes) 4) refl e where
  cases : (short : Bool) → nat_lt (length bytes) 4 ≡ short → (if short then Ok None
      else frame_of (from_be_bytes w32 (take 4 bytes)) (drop 4 bytes)) ≡ gives body rest →
      length rest < length bytes
  cases true h e = absurd cc
  cases false h e =
      let le = of_shorter (from_be_bytes w32 (take 4 bytes)) (drop 4 bytes) body rest e in
      let four : 4 ≤ length bytes = ltb-false _ _ h in
      omega (arith, length-drop 4 bytes)

made_rest : {F : Type 0} (s : Result (Event F) ℕ) (e : Event F) (left rest : List ℕ) →
    (s >>= (λ e. gives e left)) ≡ gives e rest → left ≡ rest
made_rest (Err code) e left rest is = absurd cc
made_rest (Ok x) e left rest is = (given_is x e left rest is).1

event_rest : {F : Type 0} (r : Result (Event F) ℕ) (parts : ℕ) (e : Event F) (left rest : List ℕ) →
    (r >>= (λ read. counted_event parts read >>= (λ e. gives e left))) ≡ gives e rest → left ≡ rest
event_rest (Err code) parts e left rest is = absurd cc
event_rest (Ok read) parts e left rest is = made_rest (counted_event parts read) e left rest is

pub event_shorter : {F : Type 0} (P : Profile F) (input : Input) (parts : ℕ) (bytes rest : List ℕ) (e : Event F) →
    event_at P input parts bytes ≡ Ok (Some (e, rest)) → length rest < length bytes
event_shorter {F} P input parts bytes rest e is = cases (frame_at bytes) refl is where
  cases : (f : Result (Option (List ℕ × List ℕ)) ℕ) → frame_at bytes ≡ f →
      (f >>= event_of P input parts) ≡ gives e rest → length rest < length bytes
  cases (Err code) there is = absurd cc
  cases (Ok None) there is = absurd cc
  cases (Ok (Some f)) there is =
      let same : f.1 ≡ rest = event_rest (event_in P input f.0) parts e f.1 rest is in
      let less = frame_shorter bytes f.0 f.1 there in
      omega (arith, ap length same)
