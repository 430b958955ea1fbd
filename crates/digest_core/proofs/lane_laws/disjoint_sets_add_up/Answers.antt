use Rattle.digest_core.proofs.Unions.{disjoint}
use Rattle.digest_core.proofs.lane_laws.disjoint_sets_add_up.Goals as goal

pub returns : goal.returns
returns c = disjoint
