use Rattle.laws.proofs.Openings.{items_in-whole}
use Rattle.laws.proofs.talks.whole_has_all.Goals as goal

pub returns : goal.returns
returns c = items_in-whole
