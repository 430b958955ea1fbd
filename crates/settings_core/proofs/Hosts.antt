-- What stands before the last `:` of an address, by what the code finds.
use Rattle.std.proofs.Common.{◌≡◌, ◌∙◌, ◌<◌, ℕ, suc, List, [], ◌∷◌, ◌++◌, length, take, drop, get_or, refl, sym, ap}
use Rattle.std.proofs.Common.{Some, None, take-append-drop, arith}
use Rattle.std.specs.Prelude.{◌≢◌}
use Rattle.std.specs.Str.Pattern.{RFindsChar}
use Rattle.std.proofs.lemmas.Str.Pattern.{NoCharPasses-char, drop_at_char}
use Rattle.settings_core.specs.Addresses.{host_of}

lacks : (bs : List ℕ) → ((i : ℕ) → i < length bs → get_or bs i 0 ≢ 58) → host_of bs ≡ None
lacks [] h = refl
lacks (b ∷ bs) h =
    let none = lacks bs (λ i low. h (suc i) (omega arith)) in
    let other : b ≢ 58 = h 0 (omega arith) in
    rw none (grind arith)

found : (front port : List ℕ) → host_of port ≡ None → host_of (front ++ 58 ∷ port) ≡ Some front
found [] port none = rw none refl
found (b ∷ front) port none = rw (found front port none) refl

pub host_none : (address : List ℕ) → RFindsChar 58 address None → None ≡ host_of address
host_none address h = sym (lacks address (λ i low. NoCharPasses-char 58 address i h (omega arith) low))

pub host_some : (address : List ℕ) (i j : ℕ) (host : List ℕ) → RFindsChar 58 address (Some (i, j)) →
    host ≡ take i address → Some host ≡ host_of address
host_some address i j host h is =
    let none = lacks (drop j address) (λ k low. NoCharPasses-char 58 (drop j address) k h.0 (omega arith) low) in
    let parts : take i address ++ 58 ∷ drop j address ≡ address =
    ap (λ rest. take i address ++ rest) (sym (drop_at_char 58 address i j h.1 (omega arith)))
    ∙ take-append-drop i address in
    ap Some is ∙ sym (found (take i address) (drop j address) none) ∙ ap host_of parts
