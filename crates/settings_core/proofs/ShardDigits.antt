-- Digits that are read as no number of so many bits write none that is below a bound of as many bits: no shard, and no
-- count of a duration.
use Rattle.std.proofs.Common.{◌≡◌, ◌<◌, ◌≤◌, ◌^◌, ℕ, List, [], ◌∷◌, length, Bool, true, false, Some, None, refl}
use Rattle.std.proofs.Common.{Result, Ok, Err, arith, subst}
use Rattle.std.specs.Prelude.{nat_lt, ◌&&◌, if◌then◌else◌}
use Rattle.std.specs.Result.{result_ok}
use Rattle.std.specs.Char.{is_ascii_digit}
use Rattle.std.specs.List.{list_all}
use Rattle.std.specs.Str.Parse.{digits_value, ParsesUnsigned, IsNumeral}
use Rattle.std.proofs.lemmas.Bool.{ltb-true}
use Rattle.std.proofs.Math.Pow.{pow_mono}
use Rattle.definitions.proofs.Digits.{all_small, unsigned}
use Rattle.settings_core.specs.ShardWords.{are_digits, shard_in}

none_if : (a b : Bool) (n : ℕ) → b ≡ false → None ≡ (if a && b then Some n else None)
none_if true b n is = rw is refl
none_if false b n is = refl

-- digits that write no number of w bits, with a bound that has no more
pub no_number : {E : Type 0} (w bound : ℕ) (ds : List ℕ) (r : Result ℕ E) → bound ≤ 2 ^ w →
    list_all is_ascii_digit ds ≡ true → 0 < length ds → ParsesUnsigned w 10 ds r → result_ok r ≡ None →
    None ≡ (if are_digits ds && nat_lt (digits_value 10 ds) bound then Some (digits_value 10 ds) else None)
no_number w bound ds (Ok n) few h some p none = cc none
no_number w bound ds (Err e) few h some p none = given (nat_lt (digits_value 10 ds) bound) refl
    (subst (λ bs. IsNumeral 10 bs × (digits_value 10 bs < 2 ^ w) → ⊥) (unsigned ds h) p)
  where
    given : (b : Bool) → nat_lt (digits_value 10 ds) bound ≡ b →
        (IsNumeral 10 ds × (digits_value 10 ds < 2 ^ w) → ⊥) →
        None ≡ (if are_digits ds && nat_lt (digits_value 10 ds) bound then Some (digits_value 10 ds) else None)
    given true low said =
        let below = ltb-true (digits_value 10 ds) bound low in
        absurd (said ((some, all_small ds h), omega (arith, below, few)))
    given false low said = none_if (are_digits ds) (nat_lt (digits_value 10 ds) bound) (digits_value 10 ds) low

pub too_great : {E : Type 0} (bits : ℕ) (ds : List ℕ) (r : Result ℕ E) → bits ≤ 12 →
    list_all is_ascii_digit ds ≡ true → 0 < length ds → ParsesUnsigned 16 10 ds r → result_ok r ≡ None →
    None ≡ shard_in bits ds
too_great bits ds r few h some p none =
    let most : 2 ^ bits ≤ 2 ^ 12 = pow_mono few in
    no_number 16 (2 ^ bits) ds r (omega (arith, most)) h some p none
