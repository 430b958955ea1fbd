use Rattle.laws.proofs.GoingOn.{hearings_go_on}
use Rattle.laws.proofs.talks.hearings_go_on.Goals as goal

pub returns : goal.returns
returns g c = λ S. hearings_go_on S
