use Rattle.std.proofs.Common.{sym, ◌∙◌}
use Rattle.strategy_check.proofs.Orders.{with_deep, checked_with}
use Rattle.strategy_check.proofs.checking.serves.Goals as goal

pub returns-in-Some-too_deep-clause-exact : goal.returns-in-Some-too_deep-clause-exact
returns-in-Some-too_deep-clause-exact c =
    with_deep c.deep_by_the_steps.ensures.brought c.args.strategy.now c.args.ranks.now
    (sym c.in_default.ensures) c.in_default-fits.ensures.exact c.in-Some-too_deep.ensures.staircase
    ∙ sym c.in-Some-too_deep.ensures.deep

pub returns-in-None-clause-exact : goal.returns-in-None-clause-exact
returns-in-None-clause-exact c =
    with_deep c.deep_by_the_steps.ensures.brought c.args.strategy.now c.args.ranks.now
    (sym c.in_default.ensures) c.in_default-fits.ensures.exact c.in-None.ensures.staircase ∙ sym c.in-None.ensures.deep

pub returns-in-None-clause-checked : goal.returns-in-None-clause-checked
returns-in-None-clause-checked c =
    checked_with c.check_with_accepts.ensures.exact c.check_with_accepts.ensures.accepted c.args.strategy.now
    c.args.ranks.now c.in-None.ensures.table
    (with_deep c.deep_by_the_steps.ensures.brought c.args.strategy.now c.args.ranks.now
    (sym c.in_default.ensures) c.in_default-fits.ensures.exact c.in-None.ensures.staircase ∙ sym c.in-None.ensures.deep)
