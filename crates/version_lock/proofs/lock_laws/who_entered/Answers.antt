use Rattle.version_lock.proofs.StepLaws.{entered_it}
use Rattle.version_lock.proofs.lock_laws.who_entered.Goals as goal

pub returns : goal.returns
returns g = entered_it
