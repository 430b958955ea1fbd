use Rattle.std.proofs.Common.{◌≡◌, ◌++◌, map, drop}
use Rattle.definitions.specs.Sets.{items_in}
use Rattle.shard_core.specs.Splits.{HasRoom}
use Rattle.shard_core.specs.Directories.{sum_of}
use Rattle.rangesync_c.specs.Trees.{held_in}
use Rattle.rangesync_c.proofs.stores.sums_within.Given as goal

abbrev pub invariant-loop-store : goal.invariant-loop-store
invariant-loop-store l = record {
  all : l.sums.items ++ map (λ X. sum_of (items_in X l.range)) (held_in (drop l.store-index l.stores))
      ≡ map (λ X. sum_of (items_in X l.range)) (held_in l.stores);
  room : HasRoom 65536 (held_in (drop l.store-index l.stores));
}
