use Rattle.laws.proofs.Messages.{upper_exact}
use Rattle.laws.proofs.codec.upper_is_exact.Goals as goal

pub returns : goal.returns
returns c = upper_exact
