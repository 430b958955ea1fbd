use Rattle.std.proofs.Common.{length}
use Rattle.wire_core.proofs.marks.+mark_byte.Given as goal

abbrev pub decreases-mark_byte : goal.decreases-mark_byte
decreases-mark_byte l = length l.marks.now
