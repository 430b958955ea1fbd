use Rattle.std.proofs.Common.{◌≡◌, [], ◌∷◌, Ok, length, sym, ap, ◌∙◌, arith, rules}
use Rattle.std.proofs.lemmas.List.{length-append}
use Rattle.toml.specs.View.{view}
use Rattle.sim_core.specs.Scenarios.{node_in}
use Rattle.sim_core.proofs.ScenarioReadings.{read_on}
use Rattle.sim_core.proofs.scenario_text.nodes_in.Goals as goal

pub loop-value-preserved : goal.loop-value-preserved
loop-value-preserved c =
    let size : c.len.result ≡ length c.loop-value.nodes.items = search rules in
    let number = size ∙ c.loop-value.invariant.number in
    let node : node_in c.loop-value.value-index (view c.value-item.result) ≡ Ok c.in_ok-node.node =
    ap (λ n. node_in n (view c.value-item.result)) (sym number) ∙ c.in_ok-node.ensures in
    rw c.in_ok-push.ensures.items record {
      so_far = read_on node_in c.args.array.now.items c.deref-value-items.result.now c.loop-value.value-index
          c.value-item.result c.loop-value.nodes.items c.in_ok-node.node c.deref-value-items.ensures.value
          c.loop-value-test.true c.value-item.is node c.loop-value.invariant.so_far;
      number = omega
          (arith, length-append c.loop-value.nodes.items (c.in_ok-node.node ∷ []), c.loop-value.invariant.number);
    }
