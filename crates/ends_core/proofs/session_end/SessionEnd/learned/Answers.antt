use Rattle.std.proofs.Common.{rules}
use Rattle.ends_core.proofs.Standing.{firm}
use Rattle.ends_core.proofs.session_end.SessionEnd.learned.Goals as goal

pub returns-clause-ours : goal.returns-clause-ours
returns-clause-ours g c =
    let stands = firm g.F.WireSummary.summary g.F.WireSummary.profile g.R.Role.side c.self.inside.end
    (c.ends_stand_firm.ensures g.F.WireSummary.summary) c.self.invariant in
    search (rules, stands.settled.ours)

pub returns-clause-theirs : goal.returns-clause-theirs
returns-clause-theirs g c =
    let stands = firm g.F.WireSummary.summary g.F.WireSummary.profile g.R.Role.side c.self.inside.end
    (c.ends_stand_firm.ensures g.F.WireSummary.summary) c.self.invariant in
    search (rules, stands.settled.theirs)
