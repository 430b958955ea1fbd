use Rattle.std.proofs.lemmas.Result.{IfOk-weaker}
use Rattle.std.specs.Arc.{arc_value}
use Rattle.range_tree.specs.Trees.{tree_items}
use Rattle.sim_core.proofs.Costed.{served}
use Rattle.sim_core.proofs.costing.cost_by.Goals as goal

pub returns-clause-costs : goal.returns-clause-costs
returns-clause-costs g c = IfOk-weaker c.cost_with.result _ _
    (λ cost costs. costs (tree_items c.args.ours) (served (arc_value c.args.accepted.now) c.args.ours c.requires.ours)
    c.in_ok-first.ensures.begins) c.cost_with.ensures.costs
