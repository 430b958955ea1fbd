use Rattle.laws.proofs.CompactClimbs.{replies_climb}
use Rattle.laws.proofs.compact.replies_climb.Goals as goal

pub returns : goal.returns
returns g c = λ S P f M ready apart. replies_climb S P f M ready apart
