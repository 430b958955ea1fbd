use Rattle.std.proofs.Common.{◌≡◌, ◌+◌}
use Rattle.settings_core.specs.ShardSizes.{doublings}
use Rattle.settings_core.proofs.shard_sizes.shard_bits_for.Given as goal

-- as many doublings of the room so far, and those to come, as of all
abbrev pub invariant-loop-room : goal.invariant-loop-room
invariant-loop-room l = (doublings l.items 64000 0 12 ≡ doublings l.items l.room l.bits l.more) × (l.bits + l.more ≡ 12)

abbrev pub decreases-loop-room : goal.decreases-loop-room
decreases-loop-room l = l.more
