use Rattle.version_lock.proofs.StepLaws.{gives_it_back}
use Rattle.version_lock.proofs.lock_laws.giving_back.Goals as goal

pub returns : goal.returns
returns g = gives_it_back
