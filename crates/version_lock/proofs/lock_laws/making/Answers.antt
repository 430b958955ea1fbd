use Rattle.version_lock.proofs.Opening.{has_opened}
use Rattle.version_lock.proofs.lock_laws.making.Goals as goal

pub returns : goal.returns
returns g = has_opened
