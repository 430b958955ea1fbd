use Rattle.laws.proofs.Hearing.{frames_agree}
use Rattle.laws.proofs.talks.frames_agree.Goals as goal

pub returns : goal.returns
returns g c = λ S. frames_agree S
