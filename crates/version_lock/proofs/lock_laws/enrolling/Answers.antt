use Rattle.version_lock.proofs.StepLaws.{gives_a_number}
use Rattle.version_lock.proofs.lock_laws.enrolling.Goals as goal

pub returns : goal.returns
returns g = gives_a_number
