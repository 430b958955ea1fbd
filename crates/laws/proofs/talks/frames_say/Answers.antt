use Rattle.laws.proofs.Said.{frames_say}
use Rattle.laws.proofs.talks.frames_say.Goals as goal

pub returns : goal.returns
returns g c = λ S. frames_say S
