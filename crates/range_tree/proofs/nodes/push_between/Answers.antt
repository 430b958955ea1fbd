use Rattle.std.proofs.Common.{◌++◌, ◌+◌, ◌∙◌, sym, ap, drop, map, List}
use Rattle.std.specs.List.{flat_map}
use Rattle.std.specs.Arc.{arc_value}
use Rattle.definitions.specs.Items.{Item}
use Rattle.range_tree.specs.Nodes.{span}
use Rattle.range_tree.proofs.Places.{flat_rest, span_step}
use Rattle.range_tree.proofs.nodes.push_between.Goals as goal

pub loop-node-preserved : goal.loop-node-preserved
loop-node-preserved g c =
    let content = g.P.Node.content in
    let nodes = c.args.nodes.now in
    let i = c.loop-node.node-index in
    let node = c.node-item.result in
    let rest : List Item = flat_map content (map arc_value (drop (i + 1) nodes)) in
    let cut = flat_rest content arc_value nodes i node c.loop-node-test.true c.node-item.is in
    let before =
    ap (λ zs. c.loop-node.held.items ++ span c.loop-node.start c.loop-node.end zs) (sym cut) ∙ c.loop-node.invariant in
    let step =
    span_step c.loop-node.start c.loop-node.end (content (arc_value node)) rest c.loop-node.held.items _ before in
    rw (
      c.in_ok-push_between.ensures,
      c.deref.ensures,
      c.saturating_sub-start.ensures,
      c.saturating_sub-end.ensures,
      c.len-len.ensures,
      c.deref-in-loop-node.ensures,
    ) step
