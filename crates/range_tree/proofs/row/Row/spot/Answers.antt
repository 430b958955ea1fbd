use Rattle.std.proofs.Common.{◌≤◌, length, map, subst}
use Rattle.std.proofs.Math.Dec.{leb}
use Rattle.std.specs.Arc.{arc_value}
use Rattle.range_tree.specs.Nodes.{PassFirst}
use Rattle.range_tree.specs.Rows.{IsRow}
use Rattle.range_tree.proofs.Rows.{read_rises, spot_is}
use Rattle.range_tree.proofs.row.Row.spot.Goals as goal

pub ended-index-requires : goal.ended-index-requires
ended-index-requires g c = read_rises g.P.Node.content (map (arc_value {X = g.row.P.Denot}) c.self.inside.nodes.items)
    c.self.inside.ends.items c.self.inside.sums.items c.self.invariant.0 c.deref.result.now c.deref.ensures.value

pub returns : goal.returns
returns g c =
    let ends = c.self.inside.ends.items in
    let sums = c.self.inside.sums.items in
    let place = c.args.place in
    let k = c.ended-index.result in
    let row = subst (λ ps. IsRow g.P.Node.content ps ends sums) c.self.view_is c.self.invariant.0 in
    let parted =
    subst (λ es. PassFirst (λ e. leb e place) es k) c.deref.ensures.value c.ended-index.ensures.parted in
    let most = subst (λ es. k ≤ length es) c.deref.ensures.value c.ended-index.ensures.within in
    rw c.len_of_first.ensures (spot_is g.P.Node.content c.args.self.now ends sums row place k parted
    most c.requires)
