use Rattle.laws.proofs.Pieces.{cuts_are_pieces}
use Rattle.laws.proofs.talks.cuts_are_pieces.Goals as goal

pub returns : goal.returns
returns c = cuts_are_pieces
