use Rattle.std.proofs.Common.{refl}
use Rattle.std.specs.List.Sorted.{IsStrictlySortedBy}
use Rattle.store_core.proofs.flat.FlatStoreRangeStore.empty.Goals as goal

pub invariant_of-result : goal.invariant_of-result
unfolding IsStrictlySortedBy
invariant_of-result c = rw (c.new.ensures.items, c.new-2.ensures.items)
    (record { rises = tt; are_items = tt; summed = refl })
