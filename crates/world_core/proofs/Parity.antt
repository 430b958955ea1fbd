-- Even numbers.
use Rattle.std.proofs.Common.{◌≡◌, refl, sym, ap, ◌∙◌, arith, ℕ, zero, suc, ◌%◌}
use Rattle.std.specs.Prelude.{Bool, true, false, not, ◌==◌}
use Rattle.laws.specs.Growing.{is_even}

not_twice : (b : Bool) → not (not b) ≡ b
not_twice true = refl
not_twice false = refl

pub even_by_rem : (n : ℕ) → (n % 2 == 0) ≡ is_even n
even_by_rem zero = refl
even_by_rem (suc zero) = refl
even_by_rem (suc (suc n)) =
    let less : suc (suc n) % 2 ≡ n % 2 = omega arith in
    ap (λ m. m == 0) less ∙ even_by_rem n ∙ sym (not_twice (is_even n))
