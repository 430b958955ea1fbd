use Rattle.std.proofs.Common.{◌≡◌, ◌≤◌, drop, max}
use Rattle.definitions.specs.Strategies.{widest}
use Rattle.strategy_core.proofs.strategy.Strategy.width.Given as goal

abbrev pub invariant-loop-row : goal.invariant-loop-row
invariant-loop-row l =
    record { so_far : max l.widest (widest (drop l.row-index l.row-items)) ≡ widest l.row-items; some : 1 ≤ l.widest }
