use Rattle.std.proofs.Common.{◌≡◌, take}
use Rattle.std.specs.Prelude.{flat_map}
use Rattle.shard_core.specs.Parts.{theirs_of}
use Rattle.shard_core.proofs.part.all_theirs.Given as goal

abbrev pub invariant-loop-part : goal.invariant-loop-part
invariant-loop-part l = l.all.items ≡ flat_map theirs_of (take l.part-index l.parts)
