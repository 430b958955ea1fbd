use Rattle.range_tree.proofs.Pieces.{pack_none}
use Rattle.range_tree.proofs.packed.Packed.empty.Goals as goal

pub invariant_of-result : goal.invariant_of-result
invariant_of-result c = rw (c.new.ensures.items, c.new-2.ensures.items, c.new-3.ensures.items) pack_none
