use Rattle.version_lock.proofs.StepLaws.{adds_one}
use Rattle.version_lock.proofs.lock_laws.adding.Goals as goal

pub returns : goal.returns
returns g = adds_one
