use Rattle.laws.proofs.Staying.{sessions_keep_nodes}
use Rattle.laws.proofs.talks.sessions_keep_nodes.Goals as goal

pub returns : goal.returns
returns g c = λ S. sessions_keep_nodes S
