use Rattle.std.proofs.Common.{length}
use denote.Text.{Utf8}
use denote.Shadow.{shadow}
use Rattle.client.proofs.sync_shards.addresses_of.Given as goal

abbrev pub invariant-loop-address : goal.invariant-loop-address
invariant-loop-address l = shadow (Utf8 l.rest)

abbrev pub decreases-loop-address : goal.decreases-loop-address
decreases-loop-address l = length l.rest
