-- The shortest byte string between two.
use Rattle.std.proofs.Common.{◌≡◌, ℕ, ◌≤◌, List, [], ◌∷◌, length, true, false, arith, refl}
use Rattle.definitions.specs.Items.{comes_before, separator, IsSeparator}

pub separator-after : (x y : List ℕ) → comes_before x y ≡ true → comes_before x (separator x y) ≡ true
separator-after [] [] h = h
separator-after (a ∷ x) [] h = h
separator-after [] (b ∷ y) h = refl
separator-after (a ∷ x) (b ∷ y) h = grind (arith, separator-after x y)

upto_nothing : (y : List ℕ) → comes_before y [] ≡ false
upto_nothing [] = refl
upto_nothing (b ∷ y) = refl

pub separator-upto : (x y : List ℕ) → comes_before x y ≡ true → comes_before y (separator x y) ≡ false
separator-upto [] [] h = refl
separator-upto (a ∷ x) [] h = refl
separator-upto [] (b ∷ y) h = grind (arith, upto_nothing y)
separator-upto (a ∷ x) (b ∷ y) h = grind (arith, separator-upto x y, upto_nothing y)

pub separator-shortest : (x y z : List ℕ) → comes_before x y ≡ true → comes_before x z ≡ true →
    comes_before y z ≡ false → length (separator x y) ≤ length z
separator-shortest [] [] z h l u = omega arith
separator-shortest (a ∷ x) [] z h l u = omega arith
separator-shortest [] (b ∷ y) [] h l u = absurd cc
separator-shortest [] (b ∷ y) (c ∷ z) h l u = omega arith
separator-shortest (a ∷ x) (b ∷ y) [] h l u = absurd cc
separator-shortest (a ∷ x) (b ∷ y) (c ∷ z) h l u = grind (arith, separator-shortest x y z)

pub separator-is : (x y : List ℕ) → comes_before x y ≡ true → IsSeparator x y (separator x y)
separator-is x y h = record {
  after = separator-after x y h;
  upto = separator-upto x y h;
  shortest = λ z l u. separator-shortest x y z h l u;
}
