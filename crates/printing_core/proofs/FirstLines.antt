-- The first lines of a report, as they are written: the first of ours, and then what is left of the number of theirs.
use Rattle.std.proofs.Common.{◌≡◌, ◌∙◌, ℕ, zero, suc, ◌+◌, ◌-◌, List, [], ◌∷◌, ◌++◌, length, take, refl, sym, ap, arith}
use Rattle.std.proofs.Common.{append_assoc, length-append}
use Rattle.std.specs.Prelude.{map, flat_map}
use Rattle.printing_core.specs.ReportTexts.{text_of, more_line, first_lines}

module _ {X : Type 0} (f g : X → List ℕ) where
  theirs_first : (ys : List X) (n : ℕ) → text_of (take n (map g ys)) ≡ flat_map g (take n ys)
  theirs_first [] zero = refl
  theirs_first [] (suc n) = refl
  theirs_first (y ∷ ys) zero = refl
  theirs_first (y ∷ ys) (suc n) = ap (λ rest. g y ++ rest) (theirs_first ys n)

  both_first : (xs ys : List X) (n : ℕ) → text_of (take n (map f xs ++ map g ys))
      ≡ flat_map f (take n xs) ++ flat_map g (take (n - length xs) ys)
  both_first [] ys zero = refl
  both_first [] ys (suc n) = let same : suc n - 0 ≡ suc n = omega arith in rw same (theirs_first ys (suc n))
  both_first (x ∷ xs) ys zero = let none : 0 - length (x ∷ xs) ≡ 0 = omega arith in rw none refl
  both_first (x ∷ xs) ys (suc n) =
      let same : suc n - length (x ∷ xs) ≡ n - length xs = omega arith in
      rw same (ap (λ rest. f x ++ rest) (both_first xs ys n)
      ∙ sym (append_assoc (f x) (flat_map f (take n xs)) (flat_map g (take (n - length xs) ys))))

  length_mapped : (h : X → List ℕ) (xs : List X) → length (map h xs) ≡ length xs
  length_mapped h [] = refl
  length_mapped h (x ∷ xs) = ap suc (length_mapped h xs)

  -- what was pushed, one part after another, is the first lines and how many are left
  pub all_pushed : (xs ys : List X) (n : ℕ) (t0 t1 t2 : List ℕ) →
      t1 ≡ t0 ++ flat_map f (take n xs) → t2 ≡ t1 ++ flat_map g (take (n - length xs) ys) →
      t2 ++ more_line ((length xs + length ys) - n) ≡ t0 ++ first_lines n (map f xs ++ map g ys)
  all_pushed xs ys n t0 t1 t2 a b =
      let many : length (map f xs ++ map g ys) ≡ length xs + length ys =
      omega (arith, length-append (map f xs) (map g ys), length_mapped f xs, length_mapped g ys) in
      rw (both_first xs ys n, many, b, a) (search append_assoc)
