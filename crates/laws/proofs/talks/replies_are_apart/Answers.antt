use Rattle.laws.proofs.OpenRanges.{replies_are_apart}
use Rattle.laws.proofs.talks.replies_are_apart.Goals as goal

pub returns : goal.returns
returns g c = λ S. replies_are_apart S
