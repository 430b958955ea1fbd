use Rattle.laws.proofs.Saying.{ends_say}
use Rattle.laws.proofs.talks.ends_say.Goals as goal

pub returns : goal.returns
returns g c = λ S. ends_say S
