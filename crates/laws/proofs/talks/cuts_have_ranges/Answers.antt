use Rattle.laws.proofs.PeerCuts.{peer_cutup-rises}
use Rattle.laws.proofs.talks.cuts_have_ranges.Goals as goal

pub returns : goal.returns
returns c = peer_cutup-rises
