use Rattle.ends_core.proofs.Parts_taken.{IsAmong}
use Rattle.ends_core.proofs.end.End.take_all.Given as goal

abbrev pub invariant-loop-part : goal.invariant-loop-part
invariant-loop-part g l = IsAmong g.F.WireSummary.summary l.fn.self l.self l.parts l.part-index
