-- A text that is shorter than a form does not begin as that.
use Rattle.std.proofs.Common.{◌≡◌, ℕ, ◌<◌, Bool, true, false, ◌&&◌, List, [], ◌∷◌, length, refl, ap, ◌∙◌, arith}
use Rattle.shard_core.specs.Floors.{begins_as, fits}

and_no : (test : Bool) → test && false ≡ false
and_no true = refl
and_no false = refl

pub short : (form text : List ℕ) → length text < length form → begins_as form text ≡ false
short [] text few = absurd (omega (arith, few))
short (f ∷ forms) [] few = refl
short (f ∷ forms) (b ∷ text) few =
    ap (λ rest. fits f b && rest) (short forms text (omega (arith, few))) ∙ and_no (fits f b)
