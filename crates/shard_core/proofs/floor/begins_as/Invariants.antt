use Rattle.std.proofs.Common.{◌≡◌, drop}
use Rattle.shard_core.specs.Floors.{begins_as}
use Rattle.shard_core.proofs.floor.begins_as.Given as goal

abbrev pub invariant-loop-at : goal.invariant-loop-at
invariant-loop-at l = begins_as l.form l.text ≡ begins_as (drop l.at l.form) (drop l.at l.text)
