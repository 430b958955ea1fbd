use Rattle.laws.proofs.Once.{learns_once}
use Rattle.laws.proofs.talks.learns_once.Goals as goal

pub returns : goal.returns
returns g c = λ S. learns_once S
