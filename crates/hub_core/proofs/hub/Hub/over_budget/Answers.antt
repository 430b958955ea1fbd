use Rattle.hub_core.proofs.Held.{none-within}
use Rattle.hub_core.proofs.hub.Hub.over_budget.Goals as goal

pub returns-clause-within : goal.returns-clause-within
returns-clause-within g c =
    none-within c.greediest.result c.args.self.now.peers c.args.self.now.limits.memory c.greediest.ensures.none
