use Rattle.std.proofs.Common.{take}
use Rattle.sim_core.proofs.Finishing.{HasDone}
use Rattle.sim_core.proofs.sim.do_steps.Given as goal

abbrev pub invariant-loop-step : goal.invariant-loop-step
invariant-loop-step l = HasDone l.fn.world l.world (take l.step-index l.steps)
