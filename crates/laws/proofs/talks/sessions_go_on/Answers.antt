use Rattle.laws.proofs.Sessions.{sessions_go_on}
use Rattle.laws.proofs.talks.sessions_go_on.Goals as goal

pub returns : goal.returns
returns g c = λ S. sessions_go_on S
