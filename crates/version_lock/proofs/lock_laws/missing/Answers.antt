use Rattle.version_lock.proofs.StepLaws.{misses_it}
use Rattle.version_lock.proofs.lock_laws.missing.Goals as goal

pub returns : goal.returns
returns g = misses_it
