use Rattle.sim_core.specs.Plans.{IsTimed}
use Rattle.sim_core.proofs.PlansKept.{planned-if-timed, one-of-two}
use Rattle.sim_core.proofs.planning.quickest.Goals as goal

pub planned_of-requires-clause-sets : goal.planned_of-requires-clause-sets
planned_of-requires-clause-sets c = record {
  sets = c.in_ok-theirs.ensures.rise;
  fit = c.in_ok-theirs.ensures.few;
  made = c.in_ok-theirs.ensures.made;
}

pub loop-shipped-preserved : goal.loop-shipped-preserved
loop-shipped-preserved c = one-of-two (IsTimed c.args.task.line c.args.task.sample) _ _ _ c.quicker-best.ensures.one
    c.loop-shipped.invariant c.in_ok-planned.ensures.planned

pub returns-clause-planned : goal.returns-clause-planned
returns-clause-planned c = planned-if-timed c.args.task.line c.args.task.sample c.loop-shipped.best
    c.loop-shipped.invariant
