use Rattle.std.proofs.lemmas.Result.{IfOk-weaker}
use Rattle.std.specs.Arc.{arc_value}
use Rattle.definitions.specs.Fingerprints.{two_lanes}
use Rattle.definitions.specs.Wire.{two_lane_profile}
use Rattle.range_tree.specs.Trees.{tree_items}
use Rattle.sim_core.proofs.Costed.{costs-sample}
use Rattle.sim_core.proofs.costing.cost_of.Goals as goal

pub returns-clause-costs : goal.returns-clause-costs
returns-clause-costs c = IfOk-weaker c.cost_between.result _ _
    (λ cost costs. costs-sample two_lanes two_lane_profile (arc_value c.args.accepted.now) c.args.sample _ _
    cost.turns.items cost.messages c.in_ok-theirs.ensures.rise c.in_ok-theirs.ensures.few c.in_ok-theirs.ensures.made
    costs) c.cost_between.ensures.costs
