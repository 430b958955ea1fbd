use Rattle.laws.proofs.Made.{sets_fit_lem}
use Rattle.laws.proofs.codec.sets_fit.Goals as goal

pub returns : goal.returns
returns g c = λ P. sets_fit_lem P
