use Rattle.std.proofs.Common.{◌≡◌, ◌+◌, ◌-◌, ◌^◌, ◌<◌, ◌≤◌, suc, sym, ap, subst, ◌∙◌, length, get_or, arith}
use Rattle.std.proofs.Common.{rules, map}
use Rattle.std.proofs.lemmas.List.{length-map}
use Rattle.std.specs.Arc.{arc_value}
use Rattle.definitions.specs.Items.{comes_before}
use Rattle.definitions.specs.Sets.{IsSet}
use Rattle.range_tree.specs.Nodes.{first_item, count_before, PassFirst}
use Rattle.range_tree.proofs.Places.{length_cut, node_read}
use Rattle.definitions.proofs.Partitions.{parted_below}
use Rattle.range_tree.proofs.Ranks.{leads_set, pass_map, rank_none, rank_some, set_node, count_most}
use Rattle.range_tree.proofs.row.Row.rank.Goals as goal
use Rattle.range_tree.proofs.row.Row.rank.Goals.{After-deref}

pub search-begun-requires : goal.search-begun-requires
search-begun-requires g c =
    let content = g.P.Node.content in
    parted_below (map (λ p. first_item (content p)) c.args.self.now) c.args.item.now
    (leads_set content g.met.P.Node.has_some c.args.self.now c.requires)

pub returns-then-begun-eq0-clause-place : goal.returns-then-begun-eq0-clause-place
returns-then-begun-eq0-clause-place g c =
    let content = g.P.Node.content in
    let now = c.args.self.now in
    let x = c.args.item.now in
    let none : c.search-begun.result.0 ≡ 0 = omega arith in
    let parted = subst (PassFirst (λ p. comes_before (first_item (content p)) x) now) none
    (pass_map (λ p. first_item (content p)) (λ z. comes_before z x) now c.search-begun.result.0
    c.search-begun.ensures.parted) in
    sym (rank_none content g.met.P.Node.has_some x now c.requires parted)

-- the node that is asked
low : (g : _) (c : goal.After-deref g) → c.search-begun.result.0 - 1 < length c.args.self.now
low g c =
    let same = length-map c.args.self.now (λ p. first_item (g.P.Node.content p)) in
    let within = c.search-begun.ensures.within in
    omega arith

read : (g : _) (c : goal.After-deref g) →
    c.deref.result.now ≡ get_or c.args.self.now (c.search-begun.result.0 - 1) c.deref.result.now
read g c =
    node_read arc_value c.self.inside.nodes.items c.args.self.now (c.search-begun.result.0 - 1) c.index.result.now
    c.deref.result.now c.self.view_is c.index.ensures c.deref.ensures

pub rank-own-requires : goal.rank-own-requires
rank-own-requires g c =
    let content = g.P.Node.content in
    let at = (goal.at.rank-own-requires g c).After-deref in
    subst (λ p. IsSet (content p)) (sym (read g at)) (set_node content c.args.self.now (c.search-begun.result.0 - 1)
    c.deref.result.now (low g at) c.requires)

pub overflow_add-result : goal.overflow_add-result
overflow_add-result g c =
    let content = g.P.Node.content in
    let node = c.deref.result.now in
    let at = (goal.at.overflow_add-result g c).After-deref in
    let cut = length_cut content c.args.self.now (c.search-begun.result.0 - 1) node (low g at) in
    let here = ap (λ p. length (content p)) (read g at) in
    let most : c.rank-own.result.0 ≤ length (content node) =
    rw c.rank-own.ensures.place (count_most c.args.item.now (content node)) in
    let front = c.len_of_first.ensures in
    let all = c.len.ensures in
    let fits : c.len.result < 2 ^ 64 = search rules in
    let sum : c.len_of_first.result + c.rank-own.result.0 < 2 ^ 64 = omega arith in
    search (rules, sum)

pub returns-clause-place : goal.returns-clause-place
returns-clause-place g c =
    let content = g.P.Node.content in
    let now = c.args.self.now in
    let node = c.deref.result.now in
    let x = c.args.item.now in
    let k = c.search-begun.result.0 - 1 in
    let next : c.search-begun.result.0 ≡ suc k = omega arith in
    let at = (goal.at.returns-clause-place g c).After-deref in
    let within = low g at in
    let parted = subst (PassFirst (λ p. comes_before (first_item (content p)) x) now) next
    (pass_map (λ p. first_item (content p)) (λ z. comes_before z x) now c.search-begun.result.0
    c.search-begun.ensures.parted) in
    let all = rank_some content g.met.P.Node.has_some x now k node (omega arith) c.requires parted in
    let front = c.len_of_first.ensures in
    let own : c.rank-own.result.0 ≡ count_before x (content (get_or now k node)) =
    c.rank-own.ensures.place ∙ ap (λ p. count_before x (content p)) (read g at) in
    omega arith

pub returns-clause-steps : goal.returns-clause-steps
returns-clause-steps g c small =
    let same = length-map c.args.self.now (λ p. first_item (g.P.Node.content p)) in
    let first = c.search-begun.ensures.steps (omega arith) in
    let second = c.rank-own.ensures.steps in
    let both = c.saturating_add.ensures in
    omega arith
