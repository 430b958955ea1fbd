use Rattle.std.proofs.Common.{◌≡◌, take}
use Rattle.ends_core.specs.Sizes.{with_parts}
use Rattle.ends_core.proofs.size.with_parts.Given as goal

abbrev pub invariant-loop-part : goal.invariant-loop-part
invariant-loop-part g l = record { counted : l.all ≡ with_parts l.size (take l.part-index l.parts) }
