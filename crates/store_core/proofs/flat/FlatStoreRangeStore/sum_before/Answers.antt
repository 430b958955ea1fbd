-- There are as many sums as items, and a place that is held within their number has the same items before it.
use Rattle.std.proofs.Common.{◌≡◌, ◌∙◌, length, rules}
use Rattle.store_core.specs.Flat.{flat_items}
use Rattle.store_core.proofs.Running.{fitted-within, sum-fitted}
use Rattle.store_core.proofs.flat.FlatStoreRangeStore.sum_before.Goals as goal

pub before-requires : goal.before-requires
before-requires c =
    let old = c.args.self.now in
    let count : c.len.result ≡ length (flat_items old) = search rules in
    fitted-within (flat_items old) c.deref.result.now c.args.place c.min-fitted.result c.len.result
    (c.deref.ensures.value ∙ old.summed) c.min-fitted.ensures count

pub returns : goal.returns
returns c =
    let old = c.args.self.now in
    let count : c.len.result ≡ length (flat_items old) = search rules in
    sum-fitted (flat_items old) c.args.place c.min-fitted.result c.len.result c.before-2.result c.min-fitted.ensures
    count (c.before-2.ensures (flat_items old) (c.deref.ensures.value ∙ old.summed))
