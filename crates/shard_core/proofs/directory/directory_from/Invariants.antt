use Rattle.std.proofs.Common.{◌≡◌, take}
use Rattle.shard_core.specs.Directories.{entries_from}
use Rattle.shard_core.proofs.directory.directory_from.Given as goal

abbrev pub invariant-loop-number : goal.invariant-loop-number
invariant-loop-number l = l.entries.items ≡ entries_from l.first (take l.number l.sums)
