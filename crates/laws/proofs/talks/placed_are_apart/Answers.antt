use Rattle.laws.proofs.OpenRanges.{placed_are_apart}
use Rattle.laws.proofs.talks.placed_are_apart.Goals as goal

pub returns : goal.returns
returns g c = placed_are_apart
