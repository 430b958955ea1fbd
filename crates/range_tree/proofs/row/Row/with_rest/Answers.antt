use Rattle.std.proofs.Common.{◌≡◌, ◌≤◌, ◌+◌, ◌-◌, ◌++◌, ◌∙◌, length, map, take, drop, ap, subst, sym}
use Rattle.std.specs.Arc.{arc_value}
use Rattle.std.specs.List.{flat_map}
use Rattle.std.proofs.lemmas.List.{take_rest}
use Rattle.definitions.specs.Fingerprints.{two_lanes}
use Rattle.range_tree.proofs.Places.{map_drop}
use Rattle.range_tree.proofs.Renewals.{fronts, sums_from, rest_beside}
use Rattle.range_tree.proofs.row.Row.with_rest.Goals as goal

pub invariant_of-result : goal.invariant_of-result
invariant_of-result g c =
    let content = g.P.Node.content in
    let v = arc_value {X = g.row.P.Denot} in
    let k = c.args.from in
    let own = c.self.inside.nodes.items in
    let old = c.other.inside.nodes.items in
    let ps = map v old in
    let view = c.other.view_is in
    let within : k ≤ length ps = subst (λ qs. k ≤ length qs) (sym view) c.requires in
    let begun = c.len_of_first-begun.ensures ∙ ap (λ qs. length (flat_map content (take k qs))) (sym view) in
    let start = c.len-start.ensures ∙ ap (λ qs. length (flat_map content qs)) (sym c.self.view_is) in
    let begun_sum = c.total_of_first-begun_sum.ensures
    ∙ ap (λ qs. two_lanes.of (flat_map content (take k qs))) (sym view) in
    let start_sum = c.total-start_sum.ensures ∙ ap (λ qs. two_lanes.of (flat_map content qs)) (sym c.self.view_is) in
    let nodes = c.in_ok-share.ensures ∙ ap (λ xs. map v own ++ map v xs) (take_rest c.deref.result.now k)
    ∙ ap (λ xs. map v own ++ xs) (map_drop v k c.deref.result.now ∙ ap (λ xs. drop k (map v xs)) c.deref.ensures.value)
    in
    let sums_now = take_rest c.deref-3.result.now k ∙ ap (drop k) c.deref-3.ensures.value
    ∙ sums_from content ps c.other.inside.ends.items c.other.inside.sums.items k c.other.invariant.0 within in
    let sums = c.in_ok-push_sums.ensures (flat_map content (take k ps)) (fronts content (drop k ps)) begun_sum
    sums_now in
    let ends = c.in_ok-push_ends.ensures
    ∙ ap (λ es. c.self.inside.ends.items
    ++ map (λ end. c.len-start.result + (end - c.len_of_first-begun.result)) es)
    (take_rest c.deref-2.result.now k ∙ ap (drop k) c.deref-2.ensures.value) in
    let heads : c.extend_from_slice.new.self.items ≡ c.self.inside.heads.items ++ drop k c.other.inside.heads.items =
    c.in_ok-extend_from_slice.ensures.items ∙ ap (λ hs. c.self.inside.heads.items ++ hs)
    (take_rest c.deref-4.result.now k ∙ ap (drop k) c.deref-4.ensures.value) in
    rest_beside content (map v own) ps k c.self.inside.ends.items c.other.inside.ends.items c.self.inside.sums.items
    c.other.inside.sums.items c.len_of_first-begun.result c.len-start.result c.total-start_sum.result _ _ _
    c.self.inside.heads.items c.other.inside.heads.items _ c.self.invariant c.other.invariant within begun start
    start_sum nodes ends sums heads

pub returns : goal.returns
returns g c =
    let v = arc_value {X = g.row.P.Denot} in
    let k = c.args.from in
    let own = c.self.inside.nodes.items in
    c.in_ok-share.ensures ∙ ap (λ xs. map v own ++ map v xs) (take_rest c.deref.result.now k)
    ∙ ap (λ xs. map v own ++ xs) (map_drop v k c.deref.result.now ∙ ap (λ xs. drop k (map v xs)) c.deref.ensures.value)
    ∙ (λ i. c.self.view_is i ++ drop k (c.other.view_is i))
