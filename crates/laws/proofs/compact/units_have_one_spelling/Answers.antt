use Rattle.laws.proofs.CompactLaws.{units_spelled}
use Rattle.laws.proofs.compact.units_have_one_spelling.Goals as goal

pub returns : goal.returns
returns g c = λ P real. units_spelled P real
