use Rattle.laws.proofs.Messages.{body_exact}
use Rattle.laws.proofs.codec.body_is_exact.Goals as goal

pub returns : goal.returns
returns g c = λ P real. body_exact P real
