use Rattle.laws.proofs.Turns.{ends_talk}
use Rattle.laws.proofs.talks.ends_talk.Goals as goal

pub returns : goal.returns
returns g c = λ S. ends_talk S
