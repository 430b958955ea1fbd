use Rattle.definitions.proofs.Lemmas.{separator-is}
use Rattle.laws.proofs.talks.separators_are_shortest.Goals as goal

pub returns : goal.returns
returns c = separator-is
