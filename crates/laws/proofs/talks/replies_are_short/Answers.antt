use Rattle.laws.proofs.Ends.{replies_are_short}
use Rattle.laws.proofs.talks.replies_are_short.Goals as goal

pub returns : goal.returns
returns g c = λ S. replies_are_short S
