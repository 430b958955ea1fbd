-- Digits alone are read as they stand.
use Rattle.std.proofs.Common.{◌≡◌, ◌<◌, ℕ, List, [], ◌∷◌, true, refl, arith}
use Rattle.std.specs.Char.{is_ascii_digit, digit_value}
use Rattle.std.specs.List.{list_all}
use Rattle.std.specs.Str.Parse.{AllDigits, without_leading_plus}
use Rattle.std.proofs.lemmas.Bool.{and_parts}

digit_small : (d : ℕ) → is_ascii_digit d ≡ true → digit_value d < 10
digit_small d h = grind arith

pub all_small : (ds : List ℕ) → list_all is_ascii_digit ds ≡ true → AllDigits 10 ds
all_small [] h = tt
all_small (d ∷ ds) h = let both = and_parts (is_ascii_digit d) (list_all is_ascii_digit ds) h in
    (digit_small d both.0, all_small ds both.1)

pub unsigned : (ds : List ℕ) → list_all is_ascii_digit ds ≡ true → without_leading_plus ds ≡ ds
unsigned [] h = refl
unsigned (d ∷ ds) h = grind arith
