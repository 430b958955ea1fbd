use Rattle.laws.proofs.Hearing.{bytes_agree}
use Rattle.laws.proofs.talks.bytes_agree.Goals as goal

pub returns : goal.returns
returns g c = λ S P. bytes_agree S P
