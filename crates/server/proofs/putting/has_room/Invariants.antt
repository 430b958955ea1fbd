use Rattle.std.proofs.Common.{◌≡◌}
use Rattle.peer_loops.specs.Hands.{entries}
use Rattle.server.proofs.putting.has_room.Given as goal

abbrev pub invariant-loop-place : goal.invariant-loop-place
invariant-loop-place g l = entries l.hand ≡ entries l.fn.hand
