use Rattle.laws.proofs.OpenRanges.{replies_are_placed}
use Rattle.laws.proofs.talks.replies_are_placed.Goals as goal

pub returns : goal.returns
returns g c = λ S. replies_are_placed S
