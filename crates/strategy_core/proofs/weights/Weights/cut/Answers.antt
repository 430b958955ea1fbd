use Rattle.std.proofs.Common.{◌+◌, ◌-◌, drop, slice_index_or, ap, sym, ◌∙◌, arith, List, ℕ, length, sum, take, subst}
use Rattle.definitions.specs.Strategies.{Split, shares_by}
use Rattle.strategy_core.proofs.Shares.{at_start, next_at, at_read, reached_small, at_next, is_next, taken_on}
use Rattle.strategy_core.proofs.Shares.{taken_all, taken_none, one_if_above, IsTaken}
use Rattle.strategy_core.proofs.weights.Weights.cut.Goals as goal

pub loop-weight-init : goal.loop-weight-init
loop-weight-init c = record {
  at = at_start c.self.inside.weights.items c.args.n c.self.inside.total c.self.invariant;
  taken = record { total = omega arith };
}

pub loop-weight-preserved : goal.loop-weight-preserved
loop-weight-preserved c =
    let weights = c.self.inside.weights.items in
    let items = c.deref-weight-items.result.now in
    let i = c.loop-weight.weight-index in
    let at = at_read items i c.self.invariant c.deref-weight-items.ensures.value c.loop-weight-test.true
    c.loop-weight.invariant.at in
    let taken = next_at (λ (ws : List ℕ). IsTaken weights c.args.n c.args.j c.loop-weight.reached c.loop-weight.cut
    c.loop-weight.left ws) weights items i 0 c.deref-weight-items.ensures.value c.loop-weight-test.true
    c.loop-weight.invariant.taken in
    let next = is_next weights c.args.n c.loop-weight.reached _ c.self.inside.total c.portion-next.result
    c.self.invariant c.portion-next.ensures.portion in
    let some = c.if-left-eq0.false in
    record {
      at = at_next weights c.args.n c.loop-weight.reached c.loop-weight.cut _ c.portion-next.result _ next at;
      taken =
          subst (λ (k : ℕ). IsTaken weights c.args.n c.args.j (c.loop-weight.reached + slice_index_or items i 0)
          c.portion-next.result (c.loop-weight.left - k) (drop (i + 1) weights))
          (sym (one_if_above c.loop-weight.cut c.portion-next.result c.from-left.result c.from-left.ensures))
          (taken_on weights c.args.n c.args.j c.loop-weight.reached c.loop-weight.cut _ c.portion-next.result
          c.loop-weight.left _ next at (omega arith) taken);
    }

pub returns-then-left-eq0 : goal.returns-then-left-eq0
returns-then-left-eq0 c =
    taken_none c.self.inside.weights.items c.args.n c.args.j c.loop-weight.reached c.loop-weight.cut c.loop-weight.left
    _ c.if-left-eq0.true c.loop-weight.invariant.taken
    ∙ ap (λ (ws : List ℕ). sum (take c.args.j (shares_by (Split ws) c.args.n))) c.self.view_is

pub returns : goal.returns
returns c =
    let past = c.loop-weight-test.false in
    taken_all c.self.inside.weights.items c.args.n c.args.j c.loop-weight.reached
    c.loop-weight.cut c.loop-weight.left c.loop-weight.weight-index
    (omega (arith, ap length c.deref-weight-items.ensures.value)) c.loop-weight.invariant.taken
    ∙ ap (λ (ws : List ℕ). sum (take c.args.j (shares_by (Split ws) c.args.n))) c.self.view_is

pub overflow_add-reached : goal.overflow_add-reached
overflow_add-reached c = omega (
  arith,
  reached_small c.deref-weight-items.result.now c.loop-weight.weight-index
      c.self.invariant c.deref-weight-items.ensures.value c.loop-weight-test.true c.loop-weight.invariant.at,
)
