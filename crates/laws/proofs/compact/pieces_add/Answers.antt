use Rattle.laws.proofs.CompactLaws.{pieces_add}
use Rattle.laws.proofs.compact.pieces_add.Goals as goal

pub returns : goal.returns
returns g c = λ P real. pieces_add P real
