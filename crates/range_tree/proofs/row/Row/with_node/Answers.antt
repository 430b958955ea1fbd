use Rattle.std.proofs.Common.{◌≡◌, ◌+◌, ◌++◌, ◌∷◌, [], ◌∙◌, rules, length, map, ap, sym}
use Rattle.std.specs.Arc.{arc_value}
use Rattle.std.specs.List.{flat_map}
use Rattle.std.proofs.lemmas.List.{map-append}
use Rattle.definitions.specs.Fingerprints.{join_lanes, two_lanes}
use Rattle.range_tree.specs.Nodes.{first_item}
use Rattle.range_tree.proofs.Renewals.{more_beside}
use Rattle.range_tree.proofs.row.Row.with_node.Goals as goal

pub invariant_of-result : goal.invariant_of-result
invariant_of-result g c =
    let content = g.P.Node.content in
    let v = arc_value {X = g.row.P.Denot} in
    let old = c.self.inside.nodes.items in
    let node = c.args.node in
    let own : c.len.result ≡ length (flat_map content (map v old)) =
    c.len.ensures ∙ ap (λ ps. length (flat_map content ps)) (sym c.self.view_is) in
    let more : c.len-2.result ≡ length (content (v node)) =
    c.len-2.ensures ∙ ap (λ p. length (content p)) c.deref.ensures in
    let added : c.in_ok-end.end ≡ c.len.result + c.len-2.result = search rules in
    let end : c.in_ok-end.end ≡ length (flat_map content (map v old)) + length (content (v node)) =
    added ∙ (λ i. own i + more i) in
    let sum = c.join-sum.ensures ∙ (λ i. join_lanes
    ((c.total.ensures ∙ ap (λ ps. two_lanes.of (flat_map content ps)) (sym c.self.view_is)) i)
    ((c.total-2.ensures ∙ ap (λ p. two_lanes.of (content p)) c.deref-2.ensures) i)) in
    let first = c.first.ensures ∙ ap (λ p. first_item (content p)) c.deref-3.ensures in
    more_beside content (map v old) _ (v node) c.self.inside.ends.items _ c.self.inside.sums.items _
    c.self.inside.heads.items _ c.in_ok-end.end c.join-sum.result c.head_of-head.result c.first.result.now
    c.self.invariant end sum first c.head_of-head.ensures.number c.head_of-head.ensures.bytes
    (ap (map v) c.in_ok-push-4.ensures.items ∙ map-append v old (node ∷ [])) c.in_ok-push.ensures.items
    c.in_ok-push-2.ensures.items c.in_ok-push-3.ensures.items

pub returns : goal.returns
returns g c =
    let v = arc_value {X = g.row.P.Denot} in
    let node = c.args.node in
    ap (map v) c.in_ok-push-4.ensures.items ∙ map-append v c.self.inside.nodes.items (node ∷ [])
    ∙ ap (λ ps. ps ++ v node ∷ []) c.self.view_is
