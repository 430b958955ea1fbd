use Rattle.laws.proofs.Ends.{own_is_short}
use Rattle.laws.proofs.talks.own_is_short.Goals as goal

pub returns : goal.returns
returns g c = λ S. own_is_short S
