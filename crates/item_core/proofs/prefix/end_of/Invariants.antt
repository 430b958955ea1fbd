-- Bytes of 255 at the end change nothing of the end, so it is that of what is left.
use Rattle.std.proofs.Common.{◌≡◌, ◌≤◌, length}
use Rattle.item_core.specs.Prefixes.{end_of}
use Rattle.item_core.proofs.prefix.end_of.Given as goal

abbrev pub invariant-loop-last : goal.invariant-loop-last
invariant-loop-last l = (end_of l.prefix ≡ end_of l.rest) × (length l.rest ≤ 64)

abbrev pub decreases-loop-last : goal.decreases-loop-last
decreases-loop-last l = length l.rest
