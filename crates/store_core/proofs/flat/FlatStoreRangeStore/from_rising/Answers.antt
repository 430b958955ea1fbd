use Rattle.std.proofs.Common.{◌≡◌, rules}
use Rattle.store_core.proofs.flat.FlatStoreRangeStore.from_rising.Goals as goal

pub invariant_of-result : goal.invariant_of-result
invariant_of-result c =
    let made : c.in_ok-from_slice.field-0.items ≡ c.args.items.now = search rules in
    rw made (record {
      rises = c.requires;
      are_items = c.in_ok-running.ensures.are_items;
      summed = c.in_ok-running.ensures.sums;
    })
