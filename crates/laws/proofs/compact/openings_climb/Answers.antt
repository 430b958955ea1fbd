use Rattle.laws.proofs.CompactClimbs.{openings_climb}
use Rattle.laws.proofs.compact.openings_climb.Goals as goal

pub returns : goal.returns
returns g c = λ cut M o. openings_climb cut M o
