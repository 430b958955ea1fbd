-- Each turn takes one peer out.
use Rattle.std.proofs.Common.{◌+◌, ◌≤◌}
use Rattle.slab.specs.Slab.{slab_len}
use Rattle.peer_loops.proofs.looping.Loop.keep_within.Given as goal

abbrev pub invariant-loop-peer : goal.invariant-loop-peer
invariant-loop-peer g l = slab_len l.self.hub.peers + l._peer ≤ slab_len l.fn.self.hub.peers
