use Rattle.laws.proofs.CompactLaws.{packing_joins}
use Rattle.laws.proofs.compact.packing_joins.Goals as goal

pub returns : goal.returns
returns g c = λ P real. packing_joins P real
