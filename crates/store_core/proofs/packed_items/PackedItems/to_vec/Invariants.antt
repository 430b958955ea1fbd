use Rattle.std.proofs.Common.{◌≡◌, take}
use Rattle.store_core.proofs.packed_items.PackedItems.to_vec.Given as goal

abbrev pub invariant-loop-place : goal.invariant-loop-place
invariant-loop-place l = l.items.items ≡ take l.place l.self
