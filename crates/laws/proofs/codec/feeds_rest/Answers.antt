use Rattle.laws.proofs.Kept.{feeds_rest}
use Rattle.laws.proofs.codec.feeds_rest.Goals as goal

pub returns : goal.returns
returns g c = λ P real. feeds_rest P real
