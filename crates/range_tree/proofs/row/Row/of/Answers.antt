use Rattle.std.proofs.Common.{◌≡◌, ◌+◌, ◌<◌, ◌∙◌, rules, length, map, get_or, sym, ap, subst, refl, arith}
use Rattle.std.specs.Arc.{arc_value}
use Rattle.std.proofs.lemmas.List.{length-map, get_or-map}
use Rattle.definitions.specs.Fingerprints.{two_lanes}
use Rattle.range_tree.specs.Nodes.{first_item}
use Rattle.range_tree.proofs.Places.{value_read}
use Rattle.range_tree.proofs.Rows.{begun_none, begun_more, begun_all, end_more, sum_more}
use Rattle.range_tree.proofs.Rows.{heads_none, heads_more, heads_all}
use Rattle.range_tree.proofs.row.Row.of.Goals as goal

pub loop-node-init : goal.loop-node-init
loop-node-init g c =
    let ps = map (arc_value {X = g.row.P.Denot}) c.args.nodes.items in
    record {
      begun = rw (c.in_ok-ends.ensures.items, c.in_ok-sums.ensures.items) (begun_none g.P.Node.content ps);
      end = refl;
      heads = rw c.in_ok-heads.ensures.items heads_none;
      sum = c.zero-sum.ensures;
    }

pub loop-node-preserved : goal.loop-node-preserved
loop-node-preserved g c =
    let content = g.P.Node.content in
    let nodes = c.args.nodes.items in
    let ps = map (arc_value {X = g.row.P.Denot}) nodes in
    let i = c.loop-node.node-index in
    let node = c.node-item.result in
    let value = c.deref-node-items.ensures.value in
    let same = length-map nodes (arc_value {X = g.row.P.Denot}) in
    let low_now : i < length nodes = subst (λ xs. i < length xs) value c.loop-node-test.true in
    let low : i < length ps = omega arith in
    let read_now : node ≡ get_or nodes i node = c.node-item.is ∙ ap (λ xs. get_or xs i node) value in
    let read = sym (value_read arc_value nodes i node read_now) in
    let held = c.loop-node.invariant in
    let own : c.len-in-loop-node.result ≡ length (content (arc_value node)) =
    c.len-in-loop-node.ensures ∙ ap (λ p. length (content p)) c.deref.ensures in
    let own_sum : c.total.result ≡ two_lanes.of (content (arc_value node)) =
    c.total.ensures ∙ ap (λ p. two_lanes.of (content p)) c.deref-in-loop-node.ensures in
    let added : c.in_ok-end.end ≡ c.loop-node.end + c.len-in-loop-node.result = search rules in
    let end = added ∙ end_more content ps i (arc_value node) c.loop-node.end c.len-in-loop-node.result low read held.end
    own in
    let sum = c.join-sum.ensures ∙ sum_more content ps i (arc_value node) c.loop-node.sum c.total.result low read
    held.sum own_sum in
    let begun = begun_more content ps i c.loop-node.ends.items c.loop-node.sums.items c.in_ok-end.end c.join-sum.result
    held.begun end sum in
    let leads = map (λ p. first_item (content p)) ps in
    let as_many = length-map ps (λ p. first_item (content p)) in
    let first = c.first.result.now in
    let is : first ≡ first_item (content (arc_value node)) =
    c.first.ensures ∙ ap (λ p. first_item (content p)) c.deref-in-loop-node-2.ensures in
    let lead = get_or-map (λ p. first_item (content p)) ps i (arc_value node) first low in
    let lead_read : first ≡ get_or leads i first =
    is ∙ ap (λ p. first_item (content p)) read ∙ sym lead in
    let heads = heads_more leads i first c.loop-node.heads.items c.head_of.result (omega arith) lead_read held.heads
    c.head_of.ensures.number c.head_of.ensures.bytes in
    record {
      begun = rw (c.in_ok-push.ensures.items, c.in_ok-push-2.ensures.items) begun;
      end = end;
      heads = rw c.in_ok-push-3.ensures.items heads;
      sum = sum;
    }

pub invariant_of-result : goal.invariant_of-result
invariant_of-result g c =
    let nodes = c.args.nodes.items in
    let ps = map (arc_value {X = g.row.P.Denot}) nodes in
    let i = c.loop-node.node-index in
    let same = length-map nodes (arc_value {X = g.row.P.Denot}) in
    let value = ap length c.deref-node-items.ensures.value in
    let past = c.loop-node-test.false in
    let as_many = length-map ps (λ p. first_item (g.P.Node.content p)) in (
      begun_all g.P.Node.content ps i c.loop-node.ends.items c.loop-node.sums.items c.loop-node.invariant.begun
          (search rules) (omega arith),
      heads_all (map (λ p. first_item (g.P.Node.content p)) ps) i c.loop-node.heads.items
          (omega arith) c.loop-node.invariant.heads,
    )
