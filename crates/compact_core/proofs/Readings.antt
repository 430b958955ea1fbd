-- Readings, taken apart.
use Rattle.std.proofs.Common.{◌≡◌, ℕ, zero, suc, ◌+◌, ◌*◌, ◌%◌, ◌<◌, ◌≤◌, List, [], ◌∷◌, ◌++◌, length, take, drop}
use Rattle.std.proofs.Common.{refl, sym, ap}
use Rattle.std.proofs.Common.{◌∙◌, arith, rules, Bool, true, false, Option, Some, None, Result, Ok, Err}
use Rattle.std.specs.Prelude.{nat_lt}
use Rattle.definitions.specs.Items.{comes_before}
use Rattle.definitions.specs.CompactReading.{gives, byte_from, digits_from, goes_above}
use Rattle.laws.proofs.CompactBounds.{given_is, rest_after}

pub digits_more : (places n : ℕ) (bytes rest : List ℕ) (b : ℕ) → byte_from bytes ≡ gives b rest → 128 ≤ b →
    digits_from (suc places) n bytes ≡ digits_from places (128 * n + b % 128) rest
digits_more places n [] rest b e le = absurd cc
digits_more places n (c ∷ bytes) rest b e le =
    let same = given_is c b bytes rest e in
    let head : c ≡ b = same.0 in
    let tail : bytes ≡ rest = same.1 in
    grind arith

-- what goes above the rest of z is an item after z
pub after_joined : (z : List ℕ) (s : ℕ) (front left rest y : List ℕ) → front ≡ take s z → left ≡ drop s z →
    s ≤ length z → goes_above left rest ≡ true → 0 < length rest → y ≡ front ++ rest → comes_before z y ≡ true
after_joined z s front left rest y front_is left_is le above some is =
    let whole : y ≡ take s z ++ rest = is ∙ ap (λ (t : List ℕ). t ++ rest) front_is in
    let high : goes_above (drop s z) rest ≡ true = ap (λ (t : List ℕ). goes_above t rest) (sym left_is) ∙ above in
    ap (comes_before z) whole ∙ rest_after z s rest le high some

pub byte_given : (bytes rest : List ℕ) (b : ℕ) → byte_from bytes ≡ gives b rest → bytes ≡ b ∷ rest
byte_given [] rest b e = absurd cc
byte_given (c ∷ bytes) rest b e = let same = given_is c b bytes rest e in λ i. same.0 i ∷ same.1 i
