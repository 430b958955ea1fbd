use Rattle.std.proofs.Common.{◌≡◌, ◌≤◌, sym, ap, subst, ◌∙◌, length, get_or}
use Rattle.std.specs.List.{flat_map}
use Rattle.std.specs.Arc.{arc_value}
use Rattle.std.proofs.lemmas.Result.{IfOk-weaker}
use Rattle.range_tree.specs.Grown.{grown_nodes, GrewWide}
use Rattle.range_tree.specs.Nodes.{IsFull}
use Rattle.range_tree.proofs.Widths.{grown_full}
use Rattle.range_tree.proofs.Places.{put, put_node, node_read, of_read}
use Rattle.range_tree.proofs.Growing.{length_grown}
use Rattle.range_tree.proofs.row.Row.with_at.Goals as goal

pub with_at-requires : goal.with_at-requires
with_at-requires g c =
    of_read (λ p. c.gap-index.result.1 ≤ length (g.P.Node.content p)) arc_value c.self.inside.nodes.items
    c.args.self.now c.gap-index.result.0 c.index.result.now c.deref.result.now c.self.view_is c.index.ensures
    c.deref.ensures (c.gap-index.ensures.own_fits c.deref.result.now)

pub returns-clause-length : goal.returns-clause-length
returns-clause-length g c = IfOk-weaker c.renewed.result _ _ (λ row h. (length_grown row c.args.self.now
    c.in_ok-grown.grown c.gap-index.result.0 c.gap-index.ensures.node_there h).0) c.renewed.ensures

pub returns-clause-wider : goal.returns-clause-wider
returns-clause-wider g c = IfOk-weaker c.renewed.result _ _ (λ row h. (length_grown row c.args.self.now
    c.in_ok-grown.grown c.gap-index.result.0 c.gap-index.ensures.node_there h).1) c.renewed.ensures

pub returns-clause-items : goal.returns-clause-items
returns-clause-items g c =
    let content = g.P.Node.content in
    let now = c.args.self.now in
    let node = c.deref.result.now in
    let grown = c.in_ok-grown.grown in
    let i = c.gap-index.result.0 in
    let own = c.gap-index.result.1 in
    let read = node_read arc_value c.self.inside.nodes.items now i c.index.result.now node c.self.view_is
    c.index.ensures c.deref.ensures in
    let became : flat_map content (grown_nodes grown) ≡ put own c.args.hashed (content (get_or now i node)) =
    c.in_ok-grown.ensures.items ∙ ap (λ p. put own c.args.hashed (content p)) read in
    let made = put_node content now i own node c.args.hashed (grown_nodes grown) c.gap-index.ensures.node_there
    (c.gap-index.ensures.own_fits node) became in
    IfOk-weaker c.renewed.result _ _ (λ row h. ap (flat_map content) h ∙ made
    ∙ ap (λ n. put n c.args.hashed (flat_map content now)) c.gap-index.ensures.place_is) c.renewed.ensures

pub returns-clause-full : goal.returns-clause-full
returns-clause-full g c =
    let width = g.P.Node.width in
    let read = node_read arc_value c.self.inside.nodes.items c.args.self.now c.gap-index.result.0 c.index.result.now
    c.deref.result.now c.self.view_is c.index.ensures c.deref.ensures in
    let grew = subst (λ p. GrewWide width (width p) c.in_ok-grown.grown) read c.in_ok-grown.ensures.widths in
    IfOk-weaker c.renewed.result _ _ (λ row h full. subst (IsFull width) (sym h)
    (grown_full width c.args.self.now c.gap-index.result.0 c.deref.result.now c.in_ok-grown.grown
    c.gap-index.ensures.node_there full grew)) c.renewed.ensures
