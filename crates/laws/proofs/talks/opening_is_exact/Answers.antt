use Rattle.laws.proofs.Placing.{opening_exact}
use Rattle.laws.proofs.talks.opening_is_exact.Goals as goal

pub returns : goal.returns
returns g c = opening_exact
