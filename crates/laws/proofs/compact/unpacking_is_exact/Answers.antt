use Rattle.laws.proofs.CompactLaws.{unpacking_exact}
use Rattle.laws.proofs.compact.unpacking_is_exact.Goals as goal

pub returns : goal.returns
returns g c = λ P real. unpacking_exact P real
