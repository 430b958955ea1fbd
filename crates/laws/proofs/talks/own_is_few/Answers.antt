use Rattle.laws.proofs.Stops.{own_is_few}
use Rattle.laws.proofs.talks.own_is_few.Goals as goal

pub returns : goal.returns
returns g c = λ S. own_is_few S
