use Rattle.laws.proofs.Checks.{serving, none_unfit}
use Rattle.laws.proofs.ranks.none_unfit.Goals as goal

pub returns : goal.returns
returns c = λ T steps. (serving T steps, none_unfit T steps)
