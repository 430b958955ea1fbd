use Rattle.std.proofs.Common.{◌≡◌, map}
use Rattle.std.specs.Prelude.{filter}
use Rattle.std.specs.List.{range_with_len}
use Rattle.shard_core.specs.Directories.{is_told}
use Rattle.shard_core.proofs.Told.{at_place}
use Rattle.shard_core.proofs.directory.told.Given as goal

abbrev pub invariant-loop-number : goal.invariant-loop-number
invariant-loop-number l =
    l.held.items ≡ filter is_told (map (at_place l.ours l.theirs) (range_with_len 0 l.number))
