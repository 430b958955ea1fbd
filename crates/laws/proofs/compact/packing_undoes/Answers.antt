use Rattle.laws.proofs.CompactLaws.{packing_undoes}
use Rattle.laws.proofs.compact.packing_undoes.Goals as goal

pub returns : goal.returns
returns g c = λ P real. packing_undoes P real
