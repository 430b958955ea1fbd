use Rattle.laws.proofs.Sessions.{sessions_open}
use Rattle.laws.proofs.talks.sessions_open.Goals as goal

pub returns : goal.returns
returns g c = λ S. sessions_open S
