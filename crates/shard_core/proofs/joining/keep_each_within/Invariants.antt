use Rattle.std.proofs.Common.{◌≡◌, ◌++◌, map, take, drop}
use Rattle.shard_core.specs.Floors.{kept_by}
use Rattle.shard_core.specs.Splits.{held}
use Rattle.shard_core.proofs.joining.keep_each_within.Given as goal

abbrev pub invariant-loop-place : goal.invariant-loop-place
invariant-loop-place l = held l.lists
    ≡ map (kept_by l.floor) (take l.place (held l.fn.lists)) ++ drop l.place (held l.fn.lists)
