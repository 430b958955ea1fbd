use Rattle.digest_core.proofs.Bytes.{lanes_fit}
use Rattle.digest_core.proofs.lane_laws.bytes_are_exact.Goals as goal

pub returns-clause-bytes : goal.returns-clause-bytes
returns-clause-bytes c = c.two_lanes_are_real.ensures.back

pub returns-clause-are_lanes : goal.returns-clause-are_lanes
returns-clause-are_lanes c = lanes_fit (λ bs. (c.reads_are_bytes.ensures bs).0)
