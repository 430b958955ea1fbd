use Rattle.std.proofs.Common.{◌≡◌, Some, drop}
use Rattle.std.specs.Option.{option_copied}
use Rattle.item_core.proofs.Partitions.{go_on}
use Rattle.item_core.proofs.range.Range.splits_into.Given as goal

abbrev pub invariant-loop-part : goal.invariant-loop-part
invariant-loop-part l = go_on (Some l.self.lower) l.parts l.self.upper
    ≡ go_on (option_copied l.seam) (drop l.part-index l.parts) l.self.upper
