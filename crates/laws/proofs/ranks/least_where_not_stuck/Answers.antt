use Rattle.laws.proofs.Checks.{least, ranked}
use Rattle.laws.proofs.ranks.least_where_not_stuck.Goals as goal

pub returns : goal.returns
returns c = λ T. (least T, λ l. ranked T _ l.ranks)
