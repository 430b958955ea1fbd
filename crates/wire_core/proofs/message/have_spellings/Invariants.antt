use Rattle.std.proofs.Common.{take}
use Rattle.std.specs.List.{AllByRecursion}
use Rattle.definitions.specs.Wire.{IsPart}
use Rattle.wire_core.proofs.message.have_spellings.Given as goal

abbrev pub invariant-loop-part : goal.invariant-loop-part
invariant-loop-part g l = AllByRecursion (IsPart g.F.WireSummary.profile) (take l.part-index l.parts)
