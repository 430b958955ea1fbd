use Rattle.std.proofs.Common.{◌≡◌, take}
use Rattle.world_core.proofs.world.live_nodes.Given as goal

abbrev pub invariant-loop-node : goal.invariant-loop-node
invariant-loop-node l = l.nodes.items ≡ take l.node-index l.prepared
