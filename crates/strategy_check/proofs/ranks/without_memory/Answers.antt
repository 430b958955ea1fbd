use Rattle.std.proofs.Common.{◌≡◌, ◌+◌, false, sym, ◌∙◌, arith, rules}
use Rattle.definitions.specs.Ranks.{is_stuck}
use Rattle.strategy_check.proofs.Counts.{look_on}
use Rattle.strategy_check.proofs.ranks.without_memory.Goals as goal

pub loop-count-preserved : goal.loop-count-preserved
loop-count-preserved c =
    let below = c.loop-count-test.true in
    let free : is_stuck c.args.strategy.now c.loop-count.count ≡ false = search rules in
    sym (look_on (is_stuck c.args.strategy.now) c.loop-count.count (c.args.strategy.now.cap + 1) (omega arith) free)
    ∙ c.loop-count.invariant
