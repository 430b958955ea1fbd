use Rattle.std.proofs.Common.{◌≡◌, take}
use Rattle.definitions.specs.Messages.{open_parts}
use Rattle.place_core.proofs.place.open_of.Given as goal

abbrev pub invariant-loop-part : goal.invariant-loop-part
invariant-loop-part g l = l.kept.items ≡ open_parts (take l.part-index l.parts)
