use Rattle.laws.proofs.CompactLaws.{messages_back}
use Rattle.laws.proofs.compact.messages_come_back.Goals as goal

pub returns : goal.returns
returns g c = λ P real. messages_back P real
