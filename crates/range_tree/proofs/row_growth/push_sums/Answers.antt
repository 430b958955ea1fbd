use Rattle.range_tree.proofs.Renewals.{moved_more}
use Rattle.range_tree.proofs.row_growth.push_sums.Goals as goal

pub loop-sum-preserved : goal.loop-sum-preserved
loop-sum-preserved c A Bs begun are =
    moved_more A Bs c.args.sums.now c.args.start c.loop-sum.sum-index are c.sum-item.result c.without.result
    c.join.result c.args.held.now.items c.loop-sum.held.items c.push.new.self.items c.loop-sum-test.true
    c.sum-item.is (λ B whole. c.without.ensures.rest A B begun whole) c.join.ensures c.in_ok-push.ensures.items
    (c.loop-sum.invariant A Bs begun are)
