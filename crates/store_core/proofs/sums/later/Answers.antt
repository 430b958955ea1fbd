-- Each sum is that of what stands in front and of some of the items, so without the front it is that of these items.
use Rattle.store_core.proofs.Running.{without-more, without-all}
use Rattle.store_core.proofs.sums.later.Goals as goal

pub loop-sum-preserved : goal.loop-sum-preserved
loop-sum-preserved c A B front are =
    without-more A B c.loop-sum.sum-index c.sum-item.result c.without.result c.args.sums.now c.loop-sum.held.items
    c.push.new.self.items are c.loop-sum-test.true c.sum-item.is
    (λ C whole. c.without.ensures.rest A C front whole) (c.loop-sum.invariant A B front are)
    c.in_ok-push.ensures.items

pub returns : goal.returns
returns c A B front are =
    without-all A B c.loop-sum.sum-index c.args.sums.now c.loop-sum.held.items are c.loop-sum-test.false
    (c.loop-sum.invariant A B front are)
