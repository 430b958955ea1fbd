use Rattle.std.proofs.Common.{◌≡◌, map, take, length}
use Rattle.shard_core.specs.Directories.{sum_of}
use Rattle.loading.specs.Sharded.{contents}
use Rattle.loading.proofs.sharded_set.sums_of.Given as goal

abbrev pub invariant-loop-log : goal.invariant-loop-log
invariant-loop-log l = record {
  sums : l.sums.items ≡ map sum_of (contents (take l.log-index l.logs));
  count : length l.sums.items ≡ l.log-index;
}
