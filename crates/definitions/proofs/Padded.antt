-- Bytes in an array, and zeros after them.
use Rattle.std.proofs.Common.{◌≡◌, ℕ, ◌-◌, ◌≤◌, ◌∙◌, List, ◌++◌, length, take, replicate, sym, ap, arith}
use Rattle.std.proofs.Common.{length-take-le}

pub padded_again : (most n : ℕ) (bytes : List ℕ) → n ≤ most → length bytes ≡ most →
    bytes ≡ take n bytes ++ replicate (most - n) 0 →
    (take n bytes ++ replicate (most - length (take n bytes)) 0 ≡ bytes) × (length (take n bytes) ≡ n)
padded_again most n bytes low count is =
    let same = length-take-le n bytes (omega (arith, low, count)) in
    (ap (λ m. take n bytes ++ replicate (most - m) 0) same ∙ sym is, same)
