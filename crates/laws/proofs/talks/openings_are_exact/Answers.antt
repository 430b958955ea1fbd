use Rattle.laws.proofs.Few.{openings_are_exact}
use Rattle.laws.proofs.talks.openings_are_exact.Goals as goal

pub returns : goal.returns
returns g c = λ S. openings_are_exact S
