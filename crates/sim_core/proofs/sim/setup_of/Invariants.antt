use Rattle.std.proofs.Common.{◌≡◌, map}
use Rattle.sim_core.specs.Runs.{node_of}
use Rattle.sim_core.proofs.sim.setup_of.Given as goal

abbrev pub invariant-loop-node : goal.invariant-loop-node
invariant-loop-node l = l.setup ≡ map node_of l.yielded
