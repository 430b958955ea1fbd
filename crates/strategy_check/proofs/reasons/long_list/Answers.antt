use Rattle.std.proofs.Common.{◌≡◌, sym, ◌∙◌, arith, rules}
use Rattle.strategy_core.specs.declared.act.Act.TheVariants as acts
use Rattle.strategy_check.proofs.Long.{long_split, long_short, long_found}
use Rattle.strategy_check.proofs.reasons.long_list.Goals as goal
use Rattle.strategy_check.proofs.reasons.long_list.Goals.{else-eq-via-then-eq+else-upto-limit, else-eq-via-else-eq}

pub returns-then-upto-limit : goal.returns-then-upto-limit
returns-then-upto-limit c =
    let long = c.if-upto-limit.true in
    let inside = c.loop-index-test.true in
    let lists : c.row-upto.result.1 ≡ acts.List = search rules in
    sym (long_found c.args.strategy.now.limit c.args.strategy.now.rows c.loop-index.index c.row-upto.result.0
    c.row-upto.result.1 (omega (arith, c.rows-index-end.ensures)) c.row-upto.ensures lists
    (omega (arith, c.limit.ensures)))
    ∙ c.loop-index.invariant

pub loop-index-preserved : goal.loop-index-preserved
loop-index-preserved c =
    let inside = c.loop-index-test.true in
    sym (elim c.else-eq.branch [
      | else-eq-via-then-eq+else-upto-limit w ↦
          let short = w.if-upto-limit.false in
          long_short c.args.strategy.now.limit c.args.strategy.now.rows c.loop-index.index
          c.row-upto.result.0 c.row-upto.result.1 (omega (arith, c.rows-index-end.ensures)) c.row-upto.ensures
          (omega (arith, w.limit.ensures))
      | else-eq-via-else-eq w ↦
          let splits : c.row-upto.result.1 ≡ acts.Split = search rules in
          long_split c.args.strategy.now.limit c.args.strategy.now.rows c.loop-index.index c.row-upto.result.0
          c.row-upto.result.1 (omega (arith, c.rows-index-end.ensures)) c.row-upto.ensures splits
    ])
    ∙ c.loop-index.invariant
