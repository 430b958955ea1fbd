use Rattle.std.proofs.Common.{◌≤◌, drop}
use Rattle.strategy_core.proofs.Shares.{IsAt, IsCounted}
use Rattle.strategy_core.proofs.weights.Weights.cutting.Given as goal

abbrev pub invariant-loop-weight : goal.invariant-loop-weight
invariant-loop-weight l = record {
  at : IsAt l.self-inside.weights.items l.n l.reached l.cut (drop l.weight-index l.self-inside.weights.items);
  counted : IsCounted l.self-inside.weights.items l.n l.reached l.cut
      (drop l.weight-index l.self-inside.weights.items) l.cutting;
  few : l.cutting.count ≤ l.weight-index;
}
