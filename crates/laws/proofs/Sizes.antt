-- Sets that share a fingerprint of profile 2 have one size.
-- Such a fingerprint has the number of items modulo 2^32 beside the lanes. If two are equal, their counts are, so the
-- sizes are equal modulo 2^32. A number below 2^32 is its own remainder, so two sizes below it are equal. Nothing is
-- asked of the digest.
-- docs/LAWS.md: What the count of profile 2 gains.
use Rattle.std.proofs.Common.{◌≡◌, ℕ, ◌<◌, ◌^◌, ◌%◌, ap, arith}
use Rattle.laws.specs.Sizes.{CountsTellSizes}

small : (a b : ℕ) → a < 2 ^ 32 → b < 2 ^ 32 → a % 2 ^ 32 ≡ b % 2 ^ 32 → a ≡ b
small a b few less same = grind (arith, few, less, same)

pub counts_tell : CountsTellSizes
counts_tell A B few less same = small _ _ few less (ap (λ f. f.count) same)
