use Rattle.std.proofs.Common.{rules}
use Rattle.peer_loops.proofs.Doublings.{small}
use Rattle.peer_loops.proofs.pauses.doubled.Goals as goal

pub returns-then-times-lt6-clause-few : goal.returns-then-times-lt6-clause-few
returns-then-times-lt6-clause-few c = small c.args.times (search rules)
