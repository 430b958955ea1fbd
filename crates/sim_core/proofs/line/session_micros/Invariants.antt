use Rattle.std.proofs.Common.{◌≡◌, ◌<◌, drop}
use Rattle.sim_core.specs.Lines.{line_micros, turns_from}
use Rattle.sim_core.proofs.line.session_micros.Given as goal

abbrev pub invariant-loop-turn : goal.invariant-loop-turn
invariant-loop-turn l = record {
  so_far : turns_from l.line l.own l.other l.micros (drop l.turn-index l.turns) ≡ line_micros l.line l.turns;
  own : 0 < l.own;
  other : 0 < l.other;
}
