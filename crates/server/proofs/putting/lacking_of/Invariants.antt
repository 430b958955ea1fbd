use Rattle.std.proofs.Common.{◌≡◌}
use Rattle.peer_loops.specs.Hands.{entries}
use Rattle.server.proofs.putting.lacking_of.Given as goal

abbrev pub invariant-loop-item : goal.invariant-loop-item
invariant-loop-item g l = entries l.hand ≡ entries l.fn.hand
