use Rattle.laws.proofs.Tallies.{replies_are_honest}
use Rattle.laws.proofs.talks.replies_are_honest.Goals as goal

pub returns : goal.returns
returns g c = λ S. replies_are_honest S
