use Rattle.laws.proofs.Few.{cost_claim}
use Rattle.laws.proofs.talks.cost_claim.Goals as goal

pub returns : goal.returns
returns g c = λ S. cost_claim S
