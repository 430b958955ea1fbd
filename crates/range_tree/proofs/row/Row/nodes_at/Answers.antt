use Rattle.std.proofs.Common.{◌≤◌, length, map, subst}
use Rattle.std.proofs.Math.Dec.{leb}
use Rattle.std.specs.Arc.{arc_value}
use Rattle.range_tree.specs.Nodes.{PassFirst}
use Rattle.range_tree.specs.Rows.{IsRow}
use Rattle.range_tree.proofs.Rows.{read_rises, begins_before, span_shared}
use Rattle.range_tree.proofs.row.Row.nodes_at.Goals as goal

pub ended-index-requires : goal.ended-index-requires
ended-index-requires g c = read_rises g.P.Node.content (map (arc_value {X = g.row.P.Denot}) c.self.inside.nodes.items)
    c.self.inside.ends.items c.self.inside.sums.items c.self.invariant.0 c.deref.result.now c.deref.ensures.value

pub returns : goal.returns
returns g c =
    let content = g.P.Node.content in
    let now = c.args.self.now in
    let ends = c.self.inside.ends.items in
    let sums = c.self.inside.sums.items in
    let from = c.args.at.from in
    let k = c.ended-index.result in
    let begun = c.len_of_first-begun.result in
    let row = subst (λ ps. IsRow content ps ends sums) c.self.view_is c.self.invariant.0 in
    let parted =
    subst (λ es. PassFirst (λ e. leb e from) es k) c.deref.ensures.value c.ended-index.ensures.parted in
    let most = subst (λ es. k ≤ length es) c.deref.ensures.value c.ended-index.ensures.within in
    let past : begun ≤ from = rw c.len_of_first-begun.ensures
    (begins_before content now ends sums row from k parted most) in
    span_shared content now (arc_value {X = g.row.P.Denot}) c.self.inside.nodes.items c.deref-2.result.now k begun from
    c.args.at.to c.saturating_sub-to.result c.deref-2.ensures.value c.self.view_is c.len_of_first-begun.ensures past
    c.saturating_sub-to.ensures
