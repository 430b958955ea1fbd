use Rattle.laws.proofs.Meeting.{ended_calls_write_all}
use Rattle.laws.proofs.talks.ended_calls_write_all.Goals as goal

pub returns : goal.returns
returns g c = λ S W. ended_calls_write_all S W
