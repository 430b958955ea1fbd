use Rattle.laws.proofs.Spreading.{spread_claim}
use Rattle.laws.proofs.talks.spread_claim.Goals as goal

pub returns : goal.returns
returns g c S = spread_claim S
