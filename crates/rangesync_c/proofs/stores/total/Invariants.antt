use Rattle.std.proofs.Common.{◌≡◌, ◌+◌, ◌*◌, ◌≤◌, length, drop}
use Rattle.shard_core.specs.Splits.{HasRoom}
use Rattle.rangesync_c.specs.Trees.{held_in, sizes}
use Rattle.rangesync_c.proofs.stores.total.Given as goal

abbrev pub invariant-loop-store : goal.invariant-loop-store
invariant-loop-store l = record {
  all : l.count + sizes (held_in (drop l.store-index l.stores))
      ≡ sizes (held_in l.stores);
  few : l.count + 65536 * length (drop l.store-index l.stores) ≤ 65536 * 4096;
  room : HasRoom 65536 (held_in (drop l.store-index l.stores));
}
