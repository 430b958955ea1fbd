use Rattle.std.proofs.Common.{◌≡◌, ◌≤◌, ◌++◌, ◌∙◌, rules, length, map, take, ap, subst, sym}
use Rattle.std.specs.Arc.{arc_value}
use Rattle.range_tree.proofs.Places.{map_take}
use Rattle.range_tree.proofs.Renewals.{front_beside}
use Rattle.range_tree.proofs.row.Row.front.Goals as goal

pub invariant_of-result : goal.invariant_of-result
invariant_of-result g c =
    let v = arc_value {X = g.row.P.Denot} in
    let old = c.self.inside.nodes.items in
    let k = c.args.count in
    let within : k ≤ length (map v old) = subst (λ ps. k ≤ length ps) (sym c.self.view_is) c.requires in
    let nodes : map v c.share.new.held.items ≡ take k (map v old) = c.in_ok-share.ensures
    ∙ ap (λ xs. map v xs ++ map v (take k c.deref.result.now)) c.in_ok-nodes.ensures.items
    ∙ map_take v k c.deref.result.now ∙ ap (λ xs. take k (map v xs)) c.deref.ensures.value in
    let ends : c.extend_from_slice.new.self.items ≡ take k c.self.inside.ends.items = search rules in
    let sums : c.extend_from_slice-2.new.self.items ≡ take k c.self.inside.sums.items = search rules in
    let heads : c.extend_from_slice-3.new.self.items ≡ take k c.self.inside.heads.items = search rules in
    front_beside g.P.Node.content (map v old) _ c.self.inside.ends.items _ c.self.inside.sums.items _
    c.self.inside.heads.items _ k c.self.invariant within nodes ends sums heads

pub returns : goal.returns
returns g c =
    let v = arc_value {X = g.row.P.Denot} in
    let k = c.args.count in
    c.in_ok-share.ensures
    ∙ ap (λ xs. map v xs ++ map v (take k c.deref.result.now)) c.in_ok-nodes.ensures.items
    ∙ map_take v k c.deref.result.now ∙ ap (λ xs. take k (map v xs)) c.deref.ensures.value
    ∙ ap (take k) c.self.view_is
