use Rattle.laws.proofs.CompactLaws.{messages_spelled}
use Rattle.laws.proofs.compact.messages_have_one_spelling.Goals as goal

pub returns : goal.returns
returns g c = λ P real. messages_spelled P real
