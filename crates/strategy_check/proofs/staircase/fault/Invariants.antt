use Rattle.std.proofs.Common.{◌≡◌, drop}
use Rattle.definitions.specs.Ranks.{first_fall, steps_fault}
use Rattle.strategy_check.proofs.staircase.fault.Given as goal

abbrev pub invariant-loop-step : goal.invariant-loop-step
invariant-loop-step l = first_fall l.before (drop l.step-index l.others) ≡ steps_fault l.steps
