use Rattle.std.specs.Arc.{arc_value}
use Rattle.range_tree.specs.Trees.{tree_items}
use Rattle.sim_core.proofs.Costed.{costs-from, served}
use Rattle.sim_core.proofs.costing.cost_with.Goals as goal

pub returns-clause-costs : goal.returns-clause-costs
returns-clause-costs g c =
    let a = arc_value c.args.accepted.now in
    costs-from g.F.WireSummary.summary g.F.WireSummary.profile a (tree_items c.args.theirs) c.args.first.now
    c.in_ok-second.second c.spoken_cost.new.first c.spoken_cost.new.second c.spoken_cost.result c.sides_meet.ensures
    (served a c.args.theirs c.requires.theirs) c.in_ok-second.ensures.begins c.spoken_cost.ensures.talks
    c.spoken_cost.ensures.done c.spoken_cost.ensures.said c.spoken_cost.ensures.few
