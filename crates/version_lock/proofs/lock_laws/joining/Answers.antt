use Rattle.version_lock.proofs.StepLaws.{joins_a_seat, joins_a_note}
use Rattle.version_lock.proofs.lock_laws.joining.Goals as goal

pub returns-clause-seat : goal.returns-clause-seat
returns-clause-seat g = joins_a_seat

pub returns-clause-note : goal.returns-clause-note
returns-clause-note g = joins_a_note
