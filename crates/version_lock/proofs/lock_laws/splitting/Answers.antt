use Rattle.version_lock.proofs.StepLaws.{splits_a_seat, splits_a_note}
use Rattle.version_lock.proofs.lock_laws.splitting.Goals as goal

pub returns-clause-seat : goal.returns-clause-seat
returns-clause-seat g = splits_a_seat

pub returns-clause-note : goal.returns-clause-note
returns-clause-note g = splits_a_note
