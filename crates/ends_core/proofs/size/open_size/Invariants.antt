use Rattle.std.proofs.Common.{◌≡◌, take}
use Rattle.definitions.specs.Messages.{open_parts}
use Rattle.ends_core.specs.Sizes.{message_size}
use Rattle.ends_core.proofs.size.open_size.Given as goal

abbrev pub invariant-loop-part : goal.invariant-loop-part
invariant-loop-part g l = record { counted : l.size ≡ message_size (open_parts (take l.part-index l.parts)) }
