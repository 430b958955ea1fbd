use Rattle.laws.proofs.CompactClimbs.{placed_climb}
use Rattle.laws.proofs.compact.placed_climb.Goals as goal

pub returns : goal.returns
returns g c = λ sent M apart placed. placed_climb sent M apart placed
