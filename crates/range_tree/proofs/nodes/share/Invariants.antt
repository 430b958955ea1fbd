use Rattle.std.proofs.Common.{◌≡◌, ◌++◌, take, map}
use Rattle.std.specs.Arc.{arc_value}
use Rattle.range_tree.proofs.nodes.share.Given as goal

abbrev pub invariant-loop-node : goal.invariant-loop-node
invariant-loop-node g l =
    map arc_value l.held.items ≡ map arc_value l.fn.held.items ++ map arc_value (take l.node-index l.nodes)
