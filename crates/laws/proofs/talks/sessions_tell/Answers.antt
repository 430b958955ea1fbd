use Rattle.laws.proofs.Telling.{sessions_tell}
use Rattle.laws.proofs.talks.sessions_tell.Goals as goal

pub returns : goal.returns
returns g c = λ S. sessions_tell S
