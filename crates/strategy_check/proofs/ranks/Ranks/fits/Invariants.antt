use Rattle.std.proofs.Common.{◌≡◌, ◌+◌, ◌-◌}
use Rattle.std.specs.Prelude.{find}
use Rattle.std.specs.List.{range_with_len}
use Rattle.definitions.specs.Ranks.{is_unfit, first_unfit}
use Rattle.strategy_check.proofs.ranks.Ranks.fits.Given as goal

abbrev pub invariant-loop-count : goal.invariant-loop-count
invariant-loop-count l = find (is_unfit l.strategy l.self) (range_with_len l.count (l.strategy.cap + 1 - l.count))
    ≡ first_unfit l.strategy l.self
