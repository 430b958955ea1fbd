use Rattle.laws.proofs.Turns.{talks_go_on}
use Rattle.laws.proofs.talks.talks_go_on.Goals as goal

pub returns : goal.returns
returns g c = λ S. talks_go_on S
