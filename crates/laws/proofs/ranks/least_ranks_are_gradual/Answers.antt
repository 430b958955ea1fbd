use Rattle.laws.proofs.StepsAlone.{least_ranks_are_gradual}
use Rattle.laws.proofs.ranks.least_ranks_are_gradual.Goals as goal

pub returns : goal.returns
returns c = λ T e. least_ranks_are_gradual T e
