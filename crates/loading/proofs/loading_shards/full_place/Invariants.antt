use Rattle.std.proofs.Common.{take}
use Rattle.shard_core.specs.Splits.{held, HasRoom}
use Rattle.loading.proofs.loading_shards.full_place.Given as goal

abbrev pub invariant-loop-place : goal.invariant-loop-place
invariant-loop-place l = HasRoom l.cap (take l.place (held l.shards))
