use Rattle.std.proofs.Common.{◌≡◌, ◌++◌, drop, map}
use Rattle.std.specs.List.{flat_map}
use Rattle.std.specs.Arc.{arc_value}
use Rattle.range_tree.specs.Nodes.{span}
use Rattle.range_tree.proofs.nodes.push_between.Given as goal

-- what is held so far, and what the rest has between the places that are left
abbrev pub invariant-loop-node : goal.invariant-loop-node
invariant-loop-node g l =
    l.held.items ++ span l.start l.end (flat_map g.P.Node.content (map arc_value (drop l.node-index l.nodes)))
    ≡ l.fn.held.items ++ span l.from l.to (flat_map g.P.Node.content (map arc_value l.nodes))
