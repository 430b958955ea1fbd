use Rattle.laws.proofs.Staircases.{packed}
use Rattle.laws.proofs.ranks.ranks_are_packed.Goals as goal

pub returns : goal.returns
returns c = λ T f r. packed T f r
