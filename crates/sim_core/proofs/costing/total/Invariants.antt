use Rattle.std.proofs.Common.{◌≡◌, take, sum}
use Rattle.sim_core.proofs.costing.total.Given as goal

abbrev pub invariant-loop-turn : goal.invariant-loop-turn
invariant-loop-turn l = l.total ≡ sum (take l.turn-index l.turns)
