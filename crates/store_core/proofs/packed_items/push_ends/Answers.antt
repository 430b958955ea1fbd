use Rattle.std.proofs.Common.{arith}
use Rattle.store_core.proofs.packed_items.push_ends.Goals as goal

pub overflow_add-moved : goal.overflow_add-moved
overflow_add-moved c = omega (arith, c.requires.low c.loop-end.end-index c.loop-end-test.true)
