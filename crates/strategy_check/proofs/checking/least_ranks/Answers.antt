use Rattle.std.proofs.Common.{sym, ◌∙◌}
use Rattle.strategy_check.proofs.Orders.{with_deep, checked_with}
use Rattle.strategy_check.proofs.checking.least_ranks.Goals as goal

pub returns-clause-checked : goal.returns-clause-checked
returns-clause-checked c =
    let T = c.args.strategy.now in
    let steps = c.in_ok-ranks.ranks in
    checked_with c.check_with_accepts.ensures.exact c.check_with_accepts.ensures.accepted T steps
    c.in_default-too_deep.ensures.table
    (with_deep c.deep_by_the_steps.ensures.brought T steps (sym c.in_default.ensures) ((c.none_unfit.ensures T steps).1
    c.in_ok-ranks.ensures.serving) c.in_default-too_deep.ensures.staircase ∙ sym c.in_default-too_deep.ensures.deep)
