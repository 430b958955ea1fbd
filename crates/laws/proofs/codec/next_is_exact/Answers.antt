use Rattle.laws.proofs.Messages.{next_exact}
use Rattle.laws.proofs.codec.next_is_exact.Goals as goal

pub returns : goal.returns
returns g c = λ P real. next_exact P real
