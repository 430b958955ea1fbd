use Rattle.std.proofs.Common.{◌≡◌, ℕ, ◌<◌, length, get_or}
use Rattle.rangesync_c.specs.ShardStates.{told_number}
use Rattle.rangesync_c.proofs.differing.write_told.Given as goal

abbrev pub invariant-loop-number : goal.invariant-loop-number
invariant-loop-number l = record {
  long : length l.room ≡ length l.fn.room;
  told : (k : ℕ) → k < l.number → get_or l.room k 0 ≡ told_number l.unequal k;
}
