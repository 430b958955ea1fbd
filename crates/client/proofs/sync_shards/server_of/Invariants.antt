-- What was passed over is not asked for this shard.
use Rattle.std.proofs.Common.{◌≡◌, drop}
use Rattle.client.specs.Asking.{server_of}
use Rattle.client.proofs.sync_shards.server_of.Given as goal

abbrev pub invariant-loop-one : goal.invariant-loop-one
invariant-loop-one l = server_of l.asked l.number ≡ server_of (drop l.one-index l.asked) l.number
