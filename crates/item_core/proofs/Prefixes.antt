-- The byte strings that begin with some bytes are those from them on and before their end.
-- By the first byte: where it is below the prefix's, the string comes before the prefix; where it is above, it comes not
-- before the end; where it is the same, what follows decides. Of bytes that have no end, all are 255, and none is above.
use Rattle.std.proofs.Common.{◌≡◌, ℕ, ◌<◌, ◌+◌, true, false, not, ◌&&◌, List, [], ◌∷◌, ◌++◌}
use Rattle.std.proofs.Common.{Option, Some, None, refl, ap, arith}
use Rattle.definitions.specs.Items.{contains, comes_before, is_below, IsBytes}
use Rattle.item_core.specs.Prefixes.{begins_with, end_after, end_of, of_prefix}

-- nothing comes before no bytes
not_before_none : (x : List ℕ) → comes_before x [] ≡ false
not_before_none [] = refl
not_before_none (a ∷ x) = refl

-- what is below the end of a byte and of bytes whose end is this
step : (b : ℕ) (p : List ℕ) (end : Option (List ℕ)) (a : ℕ) (x : List ℕ) → a < 256
    → (not (comes_before x p) && is_below x end) ≡ begins_with p x
    → (not (comes_before (a ∷ x) (b ∷ p)) && is_below (a ∷ x) (end_after b end)) ≡ begins_with (b ∷ p) (a ∷ x)
step b p (Some later) a x byte rest = grind (arith, rest)
step b p None a x byte rest = let none = not_before_none x in grind (arith, rest, none)

pub begins : (p x : List ℕ) → IsBytes x → contains (of_prefix p) x ≡ begins_with p x
begins [] [] bytes = refl
begins [] (a ∷ x) bytes = refl
begins (b ∷ p) [] bytes = refl
begins (b ∷ p) (a ∷ x) bytes = step b p (end_of p) a x bytes.0 (begins p x bytes.1)

-- a prefix begins with itself
pub rises : (p : List ℕ) → is_below p (end_of p) ≡ true
rises [] = refl
rises (b ∷ p) = risen b p (end_of p) (rises p)
  where
    risen : (b : ℕ) (p : List ℕ) (end : Option (List ℕ)) → is_below p end ≡ true
        → is_below (b ∷ p) (end_after b end) ≡ true
    risen b p (Some later) rest = grind (arith, rest)
    risen b p None rest = grind (arith, rest)

-- ---- the last byte

pub end_of_last : (p : List ℕ) (b : ℕ) → b < 255 → end_of (p ++ b ∷ []) ≡ Some (p ++ (b + 1) ∷ [])
end_of_last [] b low = grind arith
end_of_last (a ∷ p) b low = ap (end_after a) (end_of_last p b low)

pub end_of_full : (p : List ℕ) → end_of (p ++ 255 ∷ []) ≡ end_of p
end_of_full [] = refl
end_of_full (a ∷ p) = ap (end_after a) (end_of_full p)
