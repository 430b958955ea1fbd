use Rattle.std.proofs.Common.{arith, rules}
use Rattle.item_core.proofs.Partitions.{none_splits, stops, ends}
use Rattle.item_core.proofs.range.Range.splits_into.Goals as goal

pub returns-then-ne : goal.returns-then-ne
returns-then-ne c = stops c.args.self.now c.args.parts.now c.loop-part.seam c.loop-part.part-index c.loop-part.invariant
    c.part-item.result c.bytes-in-loop-part.result (omega arith) c.part-item.is (search rules) (search rules)

pub returns-then-not-is_empty : goal.returns-then-not-is_empty
returns-then-not-is_empty c =
    ends c.args.self.now c.args.parts.now c.loop-part.seam c.loop-part.part-index c.loop-part.invariant
    c.bytes-then-not-is_empty.result c.eq.result (omega arith) (grind arith) (search rules) c.eq.ensures

pub returns-else-not-is_empty : goal.returns-else-not-is_empty
returns-else-not-is_empty c = rw c.if-not-is_empty.false (none_splits _ _ (grind arith))
