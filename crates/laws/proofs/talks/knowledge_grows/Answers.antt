use Rattle.laws.proofs.Knowledge.{knowledge_grows}
use Rattle.laws.proofs.talks.knowledge_grows.Goals as goal

pub returns : goal.returns
returns g c = knowledge_grows
