use Rattle.std.proofs.Common.{◌≡◌}
use Rattle.shard_core.specs.Splits.{held}
use Rattle.shard_core.specs.Spans.{joined_to}
use Rattle.shard_core.proofs.joining.append_each.Given as goal

abbrev pub invariant-loop-place : goal.invariant-loop-place
invariant-loop-place l = held l.lists ≡ joined_to l.place (held l.fn.lists) (held l.more)
