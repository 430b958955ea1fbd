use Rattle.std.proofs.Common.{drop}
use Rattle.strategy_core.proofs.Shares.{IsAt, IsTaken}
use Rattle.strategy_core.proofs.weights.Weights.cut.Given as goal

abbrev pub invariant-loop-weight : goal.invariant-loop-weight
invariant-loop-weight l = record {
  at : IsAt l.self-inside.weights.items l.n l.reached l.cut (drop l.weight-index l.self-inside.weights.items);
  taken : IsTaken l.self-inside.weights.items l.n l.j l.reached l.cut l.left
      (drop l.weight-index l.self-inside.weights.items);
}
