use Rattle.std.proofs.Common.{arith, Bool, not, refl}
use Rattle.std.proofs.lemmas.List.Filters.{length-filter_both}
use Rattle.definitions.specs.Items.{Item, contains}
use Rattle.shard_core.proofs.shard_sum.ShardSum.within.Goals as goal

-- a range has no more items than the store
pub overflow_cast-result : goal.overflow_cast-result
overflow_cast-result g c =
    let inside : Item → Bool = contains c.args.range.now in
    let all = length-filter_both inside (λ x. not (inside x)) (λ x. refl)
    (g.S.RangeStore.content c.args.store.now) in
    omega (arith, all, c.count_and_sum-count.ensures.count, c.requires)
