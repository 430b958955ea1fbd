use Rattle.std.proofs.Common.{◌≡◌, ◌<◌, ◌∙◌, [], rules, length, map, get_or, sym, ap, subst, ◌≢◌, arith}
use Rattle.std.specs.Arc.{arc_value}
use Rattle.std.proofs.lemmas.List.{length-map, get_or-map}
use Rattle.definitions.specs.Items.{comes_before}
use Rattle.range_tree.specs.Nodes.{first_item}
use Rattle.range_tree.proofs.Places.{value_read}
use Rattle.range_tree.specs.Rows.{AreHeads}
use Rattle.range_tree.proofs.Numbers.{told_at}
use Rattle.range_tree.proofs.row_reads.RowHasItems.is_before.Goals as goal

pub returns-then-own-head : goal.returns-then-own-head
returns-then-own-head g c =
    let content = g.P.Node.content in
    let heads = c.self.inside.heads.items in
    let own = c.index-own.result.now in
    let leads = map (λ p. first_item (content p)) c.args.self.now in
    let are = subst (λ ps. AreHeads (map (λ p. first_item (content p)) ps) heads) c.self.view_is c.self.invariant.1 in
    let other : own ≢ c.args.head = search rules in
    told_at leads heads c.args.place own c.args.item.now c.args.head are c.requires.place c.index-own.ensures
    c.requires.bytes c.requires.head other

pub returns : goal.returns
returns g c =
    let content = g.P.Node.content in
    let node = c.index.result.now in
    let place = c.args.place in
    let ps = c.args.self.now in
    let same = length-map ps (λ p. first_item (content p)) in
    let low : place < length ps = omega arith in
    let read = sym (value_read arc_value c.self.inside.nodes.items place node c.index.ensures)
    ∙ ap (λ qs. get_or qs place (arc_value node)) c.self.view_is in
    let is : c.is_lt.result ≡ comes_before c.first.result.now c.args.item.now = search rules in
    let first = c.first.ensures ∙ ap (λ p. first_item (content p)) (c.deref.ensures ∙ read) in
    let lead = get_or-map (λ p. first_item (content p)) ps place (arc_value node) [] low in
    is ∙ ap (λ z. comes_before z c.args.item.now) (first ∙ sym lead)
