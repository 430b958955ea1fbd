use Rattle.std.proofs.Common.{◌≡◌, ◌<◌, ◌≤◌, ℕ}
use Rattle.sim_core.specs.Lines.{turn_from, turn_micros}
use Rattle.sim_core.proofs.line.turn_micros.Given as goal

abbrev pub invariant-windows : goal.invariant-windows
invariant-windows l = record {
  so_far : (n : ℕ) × (l.left ≤ n)
      × (turn_from l.line n l.window l.left l.micros ≡ turn_micros l.line l.first l.bytes);
  some : 0 < l.window;
}

abbrev pub decreases-windows : goal.decreases-windows
decreases-windows l = l.left
