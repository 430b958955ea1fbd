-- The lines of one session more.
use Rattle.std.proofs.Common.{◌≡◌, ℕ, zero, suc, ◌+◌, ◌++◌, List, sym, ap, ◌∙◌, arith}
use Rattle.std.specs.Prelude.{flat_map}
use Rattle.std.specs.List.{range_with_len}
use Rattle.std.proofs.lemmas.List.{append_assoc, append-nil}

pub lines_more : (f : ℕ → List ℕ) (a n j : ℕ) → a + n ≡ j →
    flat_map f (range_with_len a (n + 1)) ≡ flat_map f (range_with_len a n) ++ f j
lines_more f a zero j e = append-nil (f a) ∙ ap f (omega (arith, e))
lines_more f a (suc n) j e =
    let longer : suc n + 1 ≡ suc (n + 1) = omega arith in
    ap (λ m. flat_map f (range_with_len a m)) longer
    ∙ ap (λ t. f a ++ t) (lines_more f (a + 1) n j (omega (arith, e)))
    ∙ sym (append_assoc (f a) (flat_map f (range_with_len (a + 1) n)) (f j))
