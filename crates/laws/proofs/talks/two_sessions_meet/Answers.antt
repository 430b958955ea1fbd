use Rattle.laws.proofs.Meeting.{two_sessions_meet}
use Rattle.laws.proofs.talks.two_sessions_meet.Goals as goal

pub returns : goal.returns
returns g c = λ S W. two_sessions_meet S W
