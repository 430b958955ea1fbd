use Rattle.laws.proofs.Made.{answers_fit_lem}
use Rattle.laws.proofs.codec.answers_fit.Goals as goal

pub returns : goal.returns
returns g c = λ P. answers_fit_lem P
