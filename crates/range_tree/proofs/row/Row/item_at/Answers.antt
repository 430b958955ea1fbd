use Rattle.std.proofs.Common.{◌<◌, ◌∙◌, sym, ap, length}
use Rattle.std.specs.Arc.{arc_value}
use Rattle.std.specs.List.{flat_map, slice_get}
use Rattle.range_tree.proofs.Places.{get_node, node_read, of_read}
use Rattle.range_tree.proofs.row.Row.item_at.Goals as goal

pub item_at-requires : goal.item_at-requires
item_at-requires g c =
    of_read (λ p. c.spot-index.result.1 < length (g.P.Node.content p)) arc_value c.self.inside.nodes.items
    c.args.self.now c.spot-index.result.0 c.index.result.now c.deref.result.now c.self.view_is c.index.ensures
    c.deref.ensures (c.spot-index.ensures.own_fits c.deref.result.now)

pub returns : goal.returns
returns g c =
    let content = g.P.Node.content in
    let now = c.args.self.now in
    let node = c.deref.result.now in
    let own = c.spot-index.result.1 in
    let read = node_read arc_value c.self.inside.nodes.items now c.spot-index.result.0 c.index.result.now
    node c.self.view_is c.index.ensures c.deref.ensures in
    ap (slice_get (flat_map content now)) (sym c.spot-index.ensures.place_is)
    ∙ get_node content now c.spot-index.result.0 own node c.spot-index.ensures.node_there
    (c.spot-index.ensures.own_fits node)
    ∙ ap (λ p. slice_get (content p) own) (sym read) ∙ c.item_at.ensures
