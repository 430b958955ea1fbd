-- An upper bound as the definitions have it: None is the end.
use Rattle.std.specs.Prelude.{◌≡◌, List, ℕ, Option, Some, None, refl}
use Rattle.item_core.specs.declared.upper.Upper.{Upper}
use Rattle.item_core.specs.declared.upper.Upper.TheVariants.{Before, End}

abbrev pub upper_value : Upper → Option (List ℕ)
upper_value (Before y) = Some y
upper_value End = None

abbrev pub upper_from : Option (List ℕ) → Upper
upper_from None = End
upper_from (Some y) = Before y

pub upper_again : (y : Upper) → upper_from (upper_value y) ≡ y
upper_again (Before y) = refl
upper_again End = refl
