use Rattle.std.proofs.Common.{rules}
use Rattle.std.specs.Arc.{arc_value}
use Rattle.definitions.specs.Fingerprints.{two_lanes}
use Rattle.definitions.specs.Wire.{two_lane_profile}
use Rattle.range_tree.specs.Trees.{tree_items}
use Rattle.sim_core.specs.Plans.{IsAcceptedText}
use Rattle.sim_core.proofs.Costed.{costs-sample}
use Rattle.sim_core.proofs.PlansKept.{is-timed}
use Rattle.sim_core.proofs.planning.planned_of.Goals as goal

pub returns-clause-planned : goal.returns-clause-planned
returns-clause-planned c =
    let a = arc_value c.in-Some.accepted in
    let is_accepted : IsAcceptedText c.args.text.now a = search rules in
    is-timed c.args.task.line c.args.task.sample c.in_ok-planned.planned a c.args.text.now
    c.in_ok-cost.cost.turns.items c.in_ok-cost.cost.messages c.in_ok-cost.cost.bytes is_accepted
    c.in_ok-planned.ensures.named.1
    (costs-sample two_lanes two_lane_profile a c.args.task.sample (tree_items c.args.theirs.now)
    (tree_items c.args.ours.now) c.in_ok-cost.cost.turns.items c.in_ok-cost.cost.messages c.requires.sets.sets
    c.requires.sets.fit c.requires.sets.made c.in_ok-cost.ensures.costs)
    c.in_ok-planned.ensures.messages c.in_ok-planned.ensures.bytes c.in_ok-cost.ensures.bytes
    c.in_ok-planned.ensures.micros
