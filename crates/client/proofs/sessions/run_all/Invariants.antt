use Rattle.std.proofs.Common.{vec_len}
use Rattle.client.proofs.sessions.run_all.Given as goal

abbrev pub decreases-loop-crew : goal.decreases-loop-crew
decreases-loop-crew g l = vec_len l.works
