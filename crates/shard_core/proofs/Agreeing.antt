-- One list is the beginning of another.
use Rattle.std.proofs.Common.{◌≡◌, ℕ, zero, suc, ◌≤◌, true, ◌&&◌, ◌==◌, List, [], ◌∷◌, ◌++◌, length, take, min}
use Rattle.std.proofs.Common.{refl, ap, arith}
use Rattle.std.specs.Prelude.{bytes_eq}
use Rattle.std.proofs.lemmas.Bool.{eq-eqb, eqb-true, and_parts, and_from}
use Rattle.shard_core.specs.Selectors.{agree}

pub agree_is : (xs ys : List ℕ) (m : ℕ) → m ≡ min (length xs) (length ys) →
    bytes_eq (take m xs) (take m ys) ≡ agree xs ys
agree_is [] [] zero e = refl
agree_is [] (y ∷ ys) zero e = refl
agree_is [] ys (suc m) e = absurd (omega arith)
agree_is (x ∷ xs) [] zero e = refl
agree_is (x ∷ xs) [] (suc m) e = absurd (omega arith)
agree_is (x ∷ xs) (y ∷ ys) zero e = absurd (omega arith)
agree_is (x ∷ xs) (y ∷ ys) (suc m) e = ap (λ c. (x == y) && c) (agree_is xs ys m (omega arith))

pub agree_none : (xs : List ℕ) → agree xs [] ≡ true
agree_none [] = refl
agree_none (x ∷ xs) = refl

pub agree_front : (xs later : List ℕ) → agree (xs ++ later) xs ≡ true
agree_front [] later = agree_none later
agree_front (x ∷ xs) later = and_from (x == x) (agree (xs ++ later) xs) (eq-eqb x x refl) (agree_front xs later)

-- a list that agrees with a shorter one begins with it
pub begins : (xs ys : List ℕ) → length ys ≤ length xs → agree xs ys ≡ true → (later : List ℕ) × (xs ≡ ys ++ later)
begins xs [] long e = (xs, refl)
begins [] (y ∷ ys) long e = absurd (omega arith)
begins (x ∷ xs) (y ∷ ys) long e =
    let both = and_parts (x == y) (agree xs ys) e in
    let after = begins xs ys (omega arith) both.1 in
    (after.0, λ i. eqb-true x y both.0 i ∷ after.1 i)
