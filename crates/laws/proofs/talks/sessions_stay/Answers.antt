use Rattle.laws.proofs.Staying.{sessions_stay}
use Rattle.laws.proofs.talks.sessions_stay.Goals as goal

pub returns : goal.returns
returns g c = λ S. sessions_stay S
