use Rattle.laws.proofs.Turns.{ends_hear}
use Rattle.laws.proofs.talks.ends_hear.Goals as goal

pub returns : goal.returns
returns g c = λ S. ends_hear S
