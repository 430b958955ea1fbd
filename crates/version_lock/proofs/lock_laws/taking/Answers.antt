use Rattle.version_lock.proofs.StepLaws.{takes_it}
use Rattle.version_lock.proofs.lock_laws.taking.Goals as goal

pub returns : goal.returns
returns g = takes_it
