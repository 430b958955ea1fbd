use Rattle.laws.proofs.Taking.{parts_are_taken}
use Rattle.laws.proofs.talks.parts_are_taken.Goals as goal

pub returns : goal.returns
returns g c = λ S. parts_are_taken S
