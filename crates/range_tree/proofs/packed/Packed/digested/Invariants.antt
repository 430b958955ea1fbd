use Rattle.std.proofs.Common.{take}
use Rattle.store_core.specs.Sums.{running_sums}
use Rattle.range_tree.specs.Packs.{IsPack}
use Rattle.range_tree.proofs.packed.Packed.digested.Given as goal

abbrev pub invariant-loop-item : goal.invariant-loop-item
invariant-loop-item l =
    IsPack (take l.item-index l.items) l.bytes.items l.ends.items (running_sums (take l.item-index l.items))
