use Rattle.std.proofs.Common.{rules}
use Rattle.sim_core.specs.Scenarios.{is_text}
use Rattle.sim_core.proofs.ScenarioReadings.{judged}
use Rattle.sim_core.proofs.scenario_text.are_steps.Goals as goal

pub returns-then-len-le-MAX_STEPS : goal.returns-then-len-le-MAX_STEPS
returns-then-len-le-MAX_STEPS c = search (rules, judged is_text c.args.array.now.items)

pub returns-else-len-le-MAX_STEPS : goal.returns-else-len-le-MAX_STEPS
returns-else-len-le-MAX_STEPS c = search (rules, judged is_text c.args.array.now.items)
