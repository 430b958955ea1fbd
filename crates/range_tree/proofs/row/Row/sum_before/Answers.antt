use Rattle.std.proofs.Common.{◌∙◌}
use Rattle.std.specs.Arc.{arc_value}
use Rattle.range_tree.proofs.Places.{node_read}
use Rattle.range_tree.proofs.Rows.{sum_here}
use Rattle.range_tree.proofs.row.Row.sum_before.Goals as goal

pub returns : goal.returns
returns g c =
    let now = c.args.self.now in
    let node = c.deref.result.now in
    let k = c.spot-index.result.0 in
    let read = node_read arc_value c.self.inside.nodes.items now k c.index.result.now node c.self.view_is
    c.index.ensures c.deref.ensures in
    c.join.ensures ∙ sum_here g.P.Node.content now c.args.place k c.spot-index.result.1 c.spot-index.ensures node read
    c.total_of_first-front.result c.sum_before.result c.total_of_first-front.ensures c.sum_before.ensures
