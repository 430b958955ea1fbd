use Rattle.std.proofs.Common.{Global}
use Rattle.std.specs.Arc.{arc_value}
use Rattle.std.specs.declared.sync.Arc.{Arc}
use Rattle.range_tree.specs.declared.leaf.Leaf.{Leaf}
use Rattle.range_tree.specs.Nodes.{items_of}
use Rattle.range_tree.specs.Leaves.{leaf_items}
use Rattle.range_tree.proofs.Places.{span_next}
use Rattle.range_tree.proofs.part.push_leaves.Goals as goal

pub loop-leaf-preserved : goal.loop-leaf-preserved
loop-leaf-preserved c =
    let value : Arc Leaf Global → Leaf = arc_value {X = Leaf} in
    let left = c.loop-leaf.left in
    record {
      items = rw (c.behind-left.ensures.from, c.behind-left.ensures.to, c.len.ensures, c.deref.ensures)
          (span_next leaf_items value c.nodes_at.result.0.now c.loop-leaf.leaf-index c.leaf-item.result left.from
          left.to (items_of leaf_items c.loop-leaf.held.items) (items_of leaf_items c.push_part.new.held.items) _
          c.loop-leaf-test.true c.leaf-item.is c.loop-leaf.invariant.items c.in_ok-push_part.ensures.items);
      full = c.in_ok-push_part.ensures.full;
    }
