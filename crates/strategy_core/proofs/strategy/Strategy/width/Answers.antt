use Rattle.std.proofs.Common.{ap, ◌∙◌, arith}
use Rattle.std.proofs.lemmas.List.{drop_more}
use Rattle.std.proofs.lemmas.Grind.{common_steps}
use Rattle.definitions.specs.Strategies.{Row, widest, width_of, width}
use Rattle.strategy_core.proofs.Rows.{widest-positive, widest_all}
use Rattle.strategy_core.proofs.strategy.Strategy.width.Goals as goal

pub loop-row-init : goal.loop-row-init
loop-row-init c = record { so_far = omega (arith, widest-positive c.deref-row-items.result.now); some = omega arith }

pub loop-row-preserved : goal.loop-row-preserved
loop-row-preserved c =
    let rows = c.deref-row-items.result.now in
    let i = c.loop-row.row-index in
    let next = ap widest (drop_more rows i c.row-item.result c.loop-row-test.true) in
    let here = ap (λ (row : Row). width_of row.act) c.row-item.is in
    record {
      so_far = let kept = c.loop-row.invariant.so_far in grind (arith, common_steps);
      some = let kept = c.loop-row.invariant.some in grind (arith, common_steps);
    }

pub returns : goal.returns
returns c =
    widest_all c.deref-row-items.result.now c.loop-row.row-index c.loop-row.widest c.loop-row-test.false
    c.loop-row.invariant.so_far c.loop-row.invariant.some
    ∙ ap widest c.deref-row-items.ensures.value ∙ ap width c.self.view_is
