use Rattle.std.proofs.Common.{rules}
use Rattle.ends_core.proofs.Standing.{few}
use Rattle.ends_core.proofs.session_end.SessionEnd.sent.Goals as goal

pub returns-clause-few : goal.returns-clause-few
returns-clause-few g c =
    let bound = few g.F.WireSummary.summary g.F.WireSummary.profile g.R.Role.side c.self.inside.end
    (c.ends_stand_firm.ensures g.F.WireSummary.summary) c.ranks_are_read.ensures c.self.invariant in
    search (rules, bound)
