use Rattle.std.proofs.Common.{◌+◌, sym, ◌∙◌, arith}
use Rattle.definitions.specs.Ranks.{is_unfit}
use Rattle.strategy_check.proofs.Counts.{look_on}
use Rattle.strategy_check.proofs.ranks.Ranks.fits.Goals as goal

pub loop-count-preserved : goal.loop-count-preserved
loop-count-preserved c =
    let below = c.loop-count-test.true in
    sym (look_on (is_unfit c.args.strategy.now c.args.self.now) c.loop-count.count (c.args.strategy.now.cap + 1)
    (omega arith) (sym c.misfits.ensures ∙ c.if-misfits.false)) ∙ c.loop-count.invariant
