use Rattle.std.proofs.Common.{◌≡◌, take}
use Rattle.store_core.proofs.packed_items.PackedItems.from_slice.Given as goal

abbrev pub invariant-loop-item : goal.invariant-loop-item
invariant-loop-item l = l.packed ≡ take l.item-index l.items
