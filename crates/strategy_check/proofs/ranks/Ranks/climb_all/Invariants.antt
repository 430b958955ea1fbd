use Rattle.std.proofs.Common.{◌≡◌}
use Rattle.definitions.specs.Climbs.{climb_to, At}
use Rattle.strategy_check.proofs.ranks.Ranks.climb_all.Given as goal

abbrev pub invariant-loop-count : goal.invariant-loop-count
invariant-loop-count l = climb_to l.strategy l.count ≡ At l.steps.items
