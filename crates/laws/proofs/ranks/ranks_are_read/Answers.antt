use Rattle.laws.proofs.Checks.{ranks_by-at}
use Rattle.laws.proofs.ranks.ranks_are_read.Goals as goal

pub returns : goal.returns
returns c = ranks_by-at
