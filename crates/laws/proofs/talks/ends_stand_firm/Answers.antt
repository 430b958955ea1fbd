use Rattle.laws.proofs.Firm.{ends_stand_firm}
use Rattle.laws.proofs.talks.ends_stand_firm.Goals as goal

pub returns : goal.returns
returns g c = λ S. ends_stand_firm S
