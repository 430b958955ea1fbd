use Rattle.std.proofs.Common.{rules}
use Rattle.place_core.proofs.Walks.{met_by_sum}
use Rattle.place_core.proofs.fit.fit_of.Goals as goal

pub returns-in-None : goal.returns-in-None
returns-in-None g c =
    met_by_sum c.args.own.now c.args.part.now c.range-in-None.result.now c.sum_fit.result
    c.range-in-None.ensures.range (search rules) c.sum_fit.ensures
