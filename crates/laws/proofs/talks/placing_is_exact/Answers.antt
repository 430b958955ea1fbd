use Rattle.laws.proofs.Placing.{placing_is_exact}
use Rattle.laws.proofs.talks.placing_is_exact.Goals as goal

pub returns : goal.returns
returns g c = placing_is_exact _
