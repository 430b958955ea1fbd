use Rattle.strategy_core.proofs.Readings.{AreRead, WeightsTo}
use Rattle.strategy_core.proofs.reading.weights_of.Given as goal

abbrev pub invariant-loop-value : goal.invariant-loop-value
invariant-loop-value l = record {
  so_far : WeightsTo l.array.items l.value-index l.weights.items;
  read : AreRead l.weights.items l.value-index l.total;
}
