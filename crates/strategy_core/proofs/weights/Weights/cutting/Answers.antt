use Rattle.std.proofs.Common.{◌≡◌, ◌-◌, ap, ◌∙◌, arith, List, ℕ, length}
use Rattle.definitions.specs.Strategies.{Split, shares_by}
use Rattle.strategy_core.specs.Acts.{greatest}
use Rattle.strategy_core.proofs.Shares.{at_start, next_at, reached_low, reached_small, cut_rises, at_more, is_next}
use Rattle.strategy_core.proofs.Shares.{counted_none, counted_more, one_at_most, counted_all, IsCounted}
use Rattle.strategy_core.proofs.weights.Weights.cutting.Goals as goal

pub loop-weight-init : goal.loop-weight-init
loop-weight-init c = record {
  at = at_start c.self.inside.weights.items c.args.n c.self.inside.total c.self.invariant;
  counted = rw c.none-cutting.ensures (counted_none c.self.inside.weights.items c.args.n);
  few = rw c.none-cutting.ensures (omega arith);
}

pub overflow_add-reached : goal.overflow_add-reached
overflow_add-reached c = omega (
  arith,
  reached_small c.deref-weight-items.result.now c.loop-weight.weight-index
      c.self.invariant c.deref-weight-items.ensures.value c.loop-weight-test.true c.loop-weight.invariant.at,
)

pub portion-next-requires-clause-weight : goal.portion-next-requires-clause-weight
portion-next-requires-clause-weight c = reached_low c.deref-weight-items.result.now c.loop-weight.weight-index
    c.self.invariant c.deref-weight-items.ensures.value c.loop-weight-test.true c.loop-weight.invariant.at

pub overflow_sub-next : goal.overflow_sub-next
overflow_sub-next c =
    cut_rises c.deref-weight-items.result.now c.loop-weight.weight-index c.self.invariant
    c.deref-weight-items.ensures.value c.loop-weight-test.true c.loop-weight.invariant.at c.portion-next.result
    c.portion-next.ensures.portion

pub with_share-cutting-requires : goal.with_share-cutting-requires
with_share-cutting-requires c = let few = c.loop-weight.invariant.few in let most = c.self.invariant.weights_are.1 in
    let test = c.loop-weight-test.true in omega (arith, ap length c.deref-weight-items.ensures.value)

pub loop-weight-preserved : goal.loop-weight-preserved
loop-weight-preserved c =
    let weights = c.self.inside.weights.items in
    let items = c.deref-weight-items.result.now in
    let i = c.loop-weight.weight-index in
    let same = c.deref-weight-items.ensures.value in
    let counted = next_at (λ (ws : List ℕ). IsCounted weights c.args.n c.loop-weight.reached c.loop-weight.cut ws
    c.loop-weight.cutting) weights items i 0 same c.loop-weight-test.true c.loop-weight.invariant.counted in
    let next = is_next weights c.args.n c.loop-weight.reached _ c.self.inside.total c.portion-next.result
    c.self.invariant c.portion-next.ensures.portion in
    record {
      at = at_more items i c.self.invariant same c.loop-weight-test.true c.loop-weight.invariant.at
          c.portion-next.result c.portion-next.ensures.portion;
      counted = counted_more weights c.args.n c.loop-weight.reached c.loop-weight.cut _ c.portion-next.result
          _ c.loop-weight.cutting c.with_share-cutting.result next c.with_share-cutting.ensures.count
          c.with_share-cutting.ensures.greatest counted;
      few = let few = c.loop-weight.invariant.few in
          omega (arith, c.with_share-cutting.ensures.count, one_at_most (c.portion-next.result - c.loop-weight.cut));
    }

-- what was counted is all
counted : (c : goal.After-loop-weight) →
    (c.loop-weight.cutting.count ≡ length (shares_by (Split c.self.inside.weights.items) c.args.n))
    × (c.loop-weight.cutting.greatest ≡ greatest (shares_by (Split c.self.inside.weights.items) c.args.n))
counted c =
    let past = c.loop-weight-test.false in
    counted_all c.self.inside.weights.items c.args.n c.loop-weight.reached c.loop-weight.cut c.loop-weight.weight-index
    c.loop-weight.cutting (omega (arith, ap length c.deref-weight-items.ensures.value)) c.loop-weight.invariant.counted

pub returns-clause-count : goal.returns-clause-count
returns-clause-count c =
    (counted c).0
    ∙ ap (λ (ws : List ℕ). length (shares_by (Split ws) c.args.n)) c.self.view_is

pub returns-clause-greatest : goal.returns-clause-greatest
returns-clause-greatest c =
    (counted c).1
    ∙ ap (λ (ws : List ℕ). greatest (shares_by (Split ws) c.args.n)) c.self.view_is
