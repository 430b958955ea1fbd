use Rattle.std.proofs.Common.{rules}
use Rattle.toml.specs.View.{array_view}
use Rattle.strategy_core.proofs.Tables.{made}
use Rattle.strategy_core.proofs.reading.strategy_of.Goals as goal

pub invariant_of-result : goal.invariant_of-result
invariant_of-result c = made _ (array_view c.in_ok-array.array.now) c.in_ok-cap.ensures.span
    c.in_ok-limit.ensures.span.1 c.in_ok-rounds.ensures.span.1 c.in_ok-rows.ensures (search rules)
