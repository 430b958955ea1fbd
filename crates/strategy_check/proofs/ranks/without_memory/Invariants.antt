use Rattle.std.proofs.Common.{◌≡◌, ◌+◌, ◌-◌}
use Rattle.std.specs.Prelude.{find}
use Rattle.std.specs.List.{range_with_len}
use Rattle.definitions.specs.Ranks.{is_stuck, first_stuck}
use Rattle.strategy_check.proofs.ranks.without_memory.Given as goal

abbrev pub invariant-loop-count : goal.invariant-loop-count
invariant-loop-count l = find (is_stuck l.strategy) (range_with_len l.count (l.strategy.cap + 1 - l.count))
    ≡ first_stuck l.strategy
