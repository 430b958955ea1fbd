use Rattle.laws.proofs.CompactLaws.{units_firm}
use Rattle.laws.proofs.compact.units_stand_firm.Goals as goal

pub returns : goal.returns
returns g c = λ P real. units_firm P real
