use Rattle.std.proofs.Common.{rules}
use Rattle.sim_core.specs.Scenarios.{is_table}
use Rattle.sim_core.proofs.ScenarioReadings.{judged}
use Rattle.sim_core.proofs.scenario_text.are_nodes.Goals as goal

pub returns-then-len-le-MAX_NODES : goal.returns-then-len-le-MAX_NODES
returns-then-len-le-MAX_NODES c = search (rules, judged is_table c.args.array.now.items)

pub returns-else-len-le-MAX_NODES : goal.returns-else-len-le-MAX_NODES
returns-else-len-le-MAX_NODES c = search (rules, judged is_table c.args.array.now.items)
