use Rattle.version_lock.proofs.Prefixes.{starts_further, starts_by}
use Rattle.version_lock.proofs.lock_laws.beginnings.Goals as goal

pub returns-clause-again : goal.returns-clause-again
returns-clause-again g = starts_further

pub returns-clause-writers : goal.returns-clause-writers
returns-clause-writers g = starts_by
