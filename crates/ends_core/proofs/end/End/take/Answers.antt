use Rattle.ends_core.proofs.Refusing.{part-refused}
use Rattle.ends_core.proofs.end.End.take.Goals as goal

pub returns-in-Err-clause-after : goal.returns-in-Err-clause-after
returns-in-Err-clause-after g c =
    part-refused g.F.WireSummary.summary c.args.self.now c.take_on.new.self c.refuse.new.self c.args.part.now
    c.in-Err.fault c.take_on.ensures.end.0 c.take_on.ensures.end.1 c.take_on.ensures.dead c.refuse.ensures
