use Rattle.std.proofs.Common.{◌≡◌, map, take, drop}
use Rattle.shard_core.specs.Shards.{numbers}
use Rattle.shard_core.specs.Directories.{count_for, first_fault, fault_from}
use Rattle.shard_core.proofs.directory.counts_of.Given as goal

abbrev pub invariant-loop-item : goal.invariant-loop-item
invariant-loop-item l = record {
  counts : l.counts.items ≡ map (count_for (take l.item-index l.items)) (numbers l.bits);
  good : first_fault l.bits l.items ≡ fault_from l.bits (take l.item-index l.items) (drop l.item-index l.items);
}
