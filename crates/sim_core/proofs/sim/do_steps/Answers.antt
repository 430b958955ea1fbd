use Rattle.sim_core.proofs.Finishing.{does_more}
use Rattle.sim_core.proofs.sim.do_steps.Goals as goal

pub loop-step-preserved : goal.loop-step-preserved
loop-step-preserved c =
    does_more c.args.world.now c.loop-step.world c.do_step.new.world c.args.steps.now c.loop-step.step-index
    c.step-item.result
    c.loop-step-test.true c.step-item.is c.loop-step.invariant c.in_ok-do_step.ensures.world
    c.in_ok-do_step.ensures.ended
