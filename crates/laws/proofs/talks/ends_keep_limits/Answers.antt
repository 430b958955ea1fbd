use Rattle.laws.proofs.Ends.{ends_keep_limits}
use Rattle.laws.proofs.talks.ends_keep_limits.Goals as goal

pub returns : goal.returns
returns g c = λ S. ends_keep_limits S
