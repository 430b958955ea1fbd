use Rattle.laws.proofs.Ends.{cuts_are_exact}
use Rattle.laws.proofs.talks.cuts_are_exact.Goals as goal

pub returns : goal.returns
returns c = cuts_are_exact
