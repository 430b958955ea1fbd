use Rattle.std.proofs.Common.{◌≡◌, length, map, take}
use Rattle.std.specs.Arc.{arc_value}
use Rattle.definitions.specs.Fingerprints.{two_lanes}
use Rattle.range_tree.specs.Nodes.{first_item}
use Rattle.range_tree.specs.Rows.{AreHeads}
use Rattle.range_tree.proofs.Rows.{IsBegun, items_before}
use Rattle.range_tree.proofs.row.Row.of.Given as goal

abbrev pub invariant-loop-node : goal.invariant-loop-node
invariant-loop-node g l = record {
  begun : IsBegun g.P.Node.content (map arc_value l.fn.nodes.items) l.node-index l.ends.items l.sums.items;
  end : l.end ≡ length (items_before g.P.Node.content (map arc_value l.fn.nodes.items) l.node-index);
  heads : AreHeads (take l.node-index (map (λ p. first_item (g.P.Node.content p))
      (map arc_value l.fn.nodes.items))) l.heads.items;
  sum : l.sum ≡ two_lanes.of (items_before g.P.Node.content (map arc_value l.fn.nodes.items) l.node-index);
}
