use Rattle.laws.proofs.Said.{own_begins}
use Rattle.laws.proofs.talks.own_begins.Goals as goal

pub returns : goal.returns
returns g c = λ S. own_begins S
