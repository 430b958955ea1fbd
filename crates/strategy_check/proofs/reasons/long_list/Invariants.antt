use Rattle.std.proofs.Common.{◌≡◌, drop}
use Rattle.definitions.specs.Ranks.{first_long}
use Rattle.strategy_check.proofs.Long.{long_in}
use Rattle.strategy_check.proofs.reasons.long_list.Given as goal

abbrev pub invariant-loop-index : goal.invariant-loop-index
invariant-loop-index l = long_in l.strategy.limit (drop l.index l.strategy.rows) ≡ first_long l.strategy
