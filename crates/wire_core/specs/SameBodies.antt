-- Parts are the same where their ranges and bodies are.
use Rattle.std.specs.Prelude.{◌≡◌, Bool, true, false, ◌&&◌, refl}
use Rattle.definitions.specs.Items.{Range, same_range}
use Rattle.definitions.specs.Fingerprints.{Summary}
use Rattle.wire_core.specs.Bodies.{part_of}
use Rattle.wire_core.specs.Same.{same_part, same_items, same_marks}
use Rattle.wire_core.specs.declared.body.Body.{Body}
use Rattle.wire_core.specs.declared.body.Body.TheVariants as bodies

-- the same but for the range
abbrev pub same_body : {F : Type 0} → Summary F → Body F → Body F → Bool
same_body S (bodies.Sum f) (bodies.Sum g) = S.same f g
same_body S (bodies.List xs) (bodies.List ys) = same_items xs.items ys.items
same_body S (bodies.Answer ms xs) (bodies.Answer ns ys) = same_marks ms ns && same_items xs.items ys.items
same_body S _ _ = false

and_no : (b : Bool) → false ≡ (b && false)
and_no true = refl
and_no false = refl

-- parts are the same where their ranges and bodies are
pub same_part_of : {F : Type 0} (S : Summary F) (X Y : Range) (b c : Body F) →
    same_part S (part_of X b) (part_of Y c) ≡ (same_range X Y && same_body S b c)
same_part_of S X Y (bodies.Sum f) (bodies.Sum g) = refl
same_part_of S X Y (bodies.Sum f) (bodies.List ys) = and_no (same_range X Y)
same_part_of S X Y (bodies.Sum f) (bodies.Answer ns ys) = and_no (same_range X Y)
same_part_of S X Y (bodies.List xs) (bodies.Sum g) = and_no (same_range X Y)
same_part_of S X Y (bodies.List xs) (bodies.List ys) = refl
same_part_of S X Y (bodies.List xs) (bodies.Answer ns ys) = and_no (same_range X Y)
same_part_of S X Y (bodies.Answer ms xs) (bodies.Sum g) = and_no (same_range X Y)
same_part_of S X Y (bodies.Answer ms xs) (bodies.List ys) = and_no (same_range X Y)
same_part_of S X Y (bodies.Answer ms xs) (bodies.Answer ns ys) = refl
