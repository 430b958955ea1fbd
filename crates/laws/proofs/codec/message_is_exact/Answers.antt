use Rattle.laws.proofs.Messages.{message_exact}
use Rattle.laws.proofs.codec.message_is_exact.Goals as goal

pub returns : goal.returns
returns g c = λ P real. message_exact P real
