-- Plain digits are a numeral without a sign.
use Rattle.std.proofs.Common.{◌≡◌, ◌<◌, ◌^◌, ℕ, List, [], ◌∷◌, length, Bool, true, false, None, Result, Err, refl}
use Rattle.std.proofs.Common.{subst, arith}
use Rattle.std.specs.Prelude.{nat_lt}
use Rattle.std.specs.Char.{is_ascii_digit}
use Rattle.std.specs.List.{list_all}
use Rattle.std.specs.Str.Parse.{digits_value, ParsesUnsigned, IsNumeral, without_leading_plus}
use Rattle.std.proofs.lemmas.Bool.{ltb-true}
use Rattle.definitions.proofs.Digits.{all_small}
use Rattle.sim_core.specs.StepTexts.{is_plain, number_of}

plain_digits : (ds : List ℕ) → is_plain ds ≡ true → list_all is_ascii_digit ds ≡ true
plain_digits [] h = refl
plain_digits (d ∷ []) h = grind arith
plain_digits (d ∷ e ∷ ds) h = grind arith

plain_some : (ds : List ℕ) → is_plain ds ≡ true → 0 < length ds
plain_some ds h = grind arith

plain_unsigned : (ds : List ℕ) → is_plain ds ≡ true → without_leading_plus ds ≡ ds
plain_unsigned ds h = grind arith

-- where the parse refuses them, they are too great
pub number_none : {E : Type 0} (ds : List ℕ) (r : Result ℕ E) (x : E) → is_plain ds ≡ true → ParsesUnsigned 32 10 ds r →
    r ≡ Err x → None ≡ number_of ds
number_none ds r x h p e = given (nat_lt (digits_value 10 ds) 4294967296) refl (subst (λ bs. IsNumeral 10 bs
    × (digits_value 10 bs < 2 ^ 32) → ⊥) (plain_unsigned ds h) (subst (ParsesUnsigned 32 10 ds) e p))
  where
    given : (b : Bool) → nat_lt (digits_value 10 ds) 4294967296 ≡ b →
        (IsNumeral 10 ds × (digits_value 10 ds < 2 ^ 32) → ⊥) → None ≡ number_of ds
    given true low said = absurd
        (said ((plain_some ds h, all_small ds (plain_digits ds h)), ltb-true (digits_value 10 ds) 4294967296 low))
    given false low said = cc (h, low)
