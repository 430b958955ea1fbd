use Rattle.std.proofs.lemmas.Result.{IfOk-weaker}
use Rattle.sim_core.proofs.PlansKept.{planned-if-timed}
use Rattle.sim_core.proofs.planning.planned_for.Goals as goal

pub returns-clause-planned : goal.returns-clause-planned
returns-clause-planned c = IfOk-weaker c.planned_of.result _ _
    (λ found timed. planned-if-timed c.args.task.line c.args.task.sample found timed) c.planned_of.ensures.planned

pub planned_of-requires-clause-sets : goal.planned_of-requires-clause-sets
planned_of-requires-clause-sets c = record {
  sets = c.in_ok-theirs.ensures.rise;
  fit = c.in_ok-theirs.ensures.few;
  made = c.in_ok-theirs.ensures.made;
}
