use Rattle.std.specs.List.Sorted.{IsStrictlySortedBy}
use Rattle.range_tree.proofs.tree_store.TreeRangeStore.empty.Goals as goal

pub invariant_of-result : goal.invariant_of-result
unfolding IsStrictlySortedBy
invariant_of-result c = rw c.empty.ensures (record { rises = tt; are_items = tt; full = tt })
