-- Six powers of two are small.
use Rattle.std.proofs.Common.{◌≤◌, ◌<◌, ◌*◌, ◌^◌, ◌%◌, ℕ, zero, suc, arith}

pub small : (t : ℕ) → t < 6 → 1 * 2 ^ t % 18446744073709551616 ≤ 64
small zero h = omega arith
small (suc zero) h = omega arith
small (suc (suc zero)) h = omega arith
small (suc (suc (suc zero))) h = omega arith
small (suc (suc (suc (suc zero)))) h = omega arith
small (suc (suc (suc (suc (suc zero))))) h = omega arith
small (suc (suc (suc (suc (suc (suc t)))))) h = absurd (omega arith)
