-- The port of an address, and whether it is too high, by what the code finds.
use Rattle.std.proofs.Common.{◌≡◌, ◌∙◌, ◌<◌, ◌^◌, ℕ, suc, List, [], ◌∷◌, ◌++◌, length, take, drop, get_or, refl, sym}
use Rattle.std.proofs.Common.{ap, Bool, true, false, Some, None, Result, Ok, Err, take-append-drop, subst, arith}
use Rattle.std.specs.Prelude.{◌≢◌, nat_lt, is_err}
use Rattle.std.specs.Char.{is_ascii_digit}
use Rattle.std.specs.List.{list_all}
use Rattle.std.specs.Str.Pattern.{RFindsChar}
use Rattle.std.specs.Str.Parse.{digits_value, ParsesUnsigned, IsNumeral, without_leading_plus}
use Rattle.std.proofs.lemmas.Bool.{ltb-false}
use Rattle.std.proofs.lemmas.Str.Pattern.{NoCharPasses-char, drop_at_char}
use Rattle.definitions.proofs.Digits.{all_small, unsigned}
use Rattle.tcp_front.specs.Causes.{port_of, is_too_high}

lacks : (bs : List ℕ) → ((i : ℕ) → i < length bs → get_or bs i 0 ≢ 58) → port_of bs ≡ None
lacks [] h = refl
lacks (b ∷ bs) h =
    let none = lacks bs (λ i low. h (suc i) (omega arith)) in
    let other : b ≢ 58 = h 0 (omega arith) in
    rw none (grind arith)

found : (front port : List ℕ) → port_of port ≡ None → port_of (front ++ 58 ∷ port) ≡ Some port
found [] port none = rw none refl
found (b ∷ front) port none = rw (found front port none) refl

pub port_none : (address : List ℕ) → RFindsChar 58 address None → None ≡ port_of address
port_none address h = sym (lacks address (λ i low. NoCharPasses-char 58 address i h (omega arith) low))

pub port_some : (address : List ℕ) (i j : ℕ) (port : List ℕ) → RFindsChar 58 address (Some (i, j)) →
    port ≡ drop j address → Some port ≡ port_of address
port_some address i j port h is =
    let none = lacks (drop j address) (λ k low. NoCharPasses-char 58 (drop j address) k h.0 (omega arith) low) in
    let parts : take i address ++ 58 ∷ drop j address ≡ address =
    ap (λ rest. take i address ++ rest) (sym (drop_at_char 58 address i j h.1 (omega arith)))
    ∙ take-append-drop i address in
    ap Some is ∙ sym (found (take i address) (drop j address) none) ∙ ap port_of parts

-- digits that are read as no number of sixteen bits are too high, and others are not
pub too_high : {E : Type 0} (ds : List ℕ) (r : Result ℕ E) → list_all is_ascii_digit ds ≡ true → 0 < length ds →
    ParsesUnsigned 16 10 ds r → is_err r ≡ is_too_high ds
too_high ds (Ok n) h some p =
    let low : digits_value 10 (without_leading_plus ds) < 2 ^ 16 = p.0.1 in
    let same = unsigned ds h in
    let below : digits_value 10 ds < 65536 = subst (λ bs. digits_value 10 bs < 65536) same low in
    rw h (grind (arith, below))
too_high ds (Err e) h some p = given (nat_lt 65535 (digits_value 10 ds)) refl
  where
    given : (b : Bool) → nat_lt 65535 (digits_value 10 ds) ≡ b → true ≡ is_too_high ds
    given true high = cc (h, high)
    given false low =
        let great = ltb-false 65535 (digits_value 10 ds) low in
        let refused : IsNumeral 10 ds × (digits_value 10 ds < 2 ^ 16) → ⊥ =
        subst (λ bs. IsNumeral 10 bs × (digits_value 10 bs < 2 ^ 16) → ⊥) (unsigned ds h) p in
        absurd (refused ((some, all_small ds h), omega (arith, great)))
