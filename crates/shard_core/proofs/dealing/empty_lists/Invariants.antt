use Rattle.std.proofs.Common.{◌≡◌, [], replicate, length}
use Rattle.shard_core.specs.Splits.{held}
use Rattle.shard_core.proofs.dealing.empty_lists.Given as goal

abbrev pub invariant-loop-made : goal.invariant-loop-made
invariant-loop-made l = record {
  none : held l.lists.items ≡ replicate l.made [];
  all : length l.lists.items ≡ l.made;
}
