use Rattle.ends_core.specs.Turns.{answer_in}
use Rattle.std.proofs.Common.{rules}
use Rattle.ends_core.proofs.Short.{ended-short}
use Rattle.ends_core.proofs.Standing.{countable, stands-ended}
use Rattle.ends_core.specs.Roles.{start_of}
use Rattle.ends_core.proofs.session_end.SessionEnd.end.Goals as goal

pub end-requires : goal.end-requires
end-requires g c =
    countable g.F.WireSummary.summary g.F.WireSummary.profile g.R.Role.side c.self.inside.end
    (c.ends_stand_firm.ensures g.F.WireSummary.summary) c.ranks_are_read.ensures c.self.invariant

pub returns-clause-short : goal.returns-clause-short
returns-clause-short g c =
    let short = ended-short g.F.WireSummary.summary g.F.WireSummary.profile
    (start_of g.R.Role.side g.F.WireSummary.summary) c.self.inside.end c.end.result
    (c.replies_are_short.ensures g.F.WireSummary.summary) (c.parts_are_taken.ensures g.F.WireSummary.summary)
    c.self.invariant c.end.ensures.answer in
    search (rules, short)

pub invariant_of-self : goal.invariant_of-self
invariant_of-self g c =
    stands-ended g.F.WireSummary.summary g.F.WireSummary.profile (start_of g.R.Role.side g.F.WireSummary.summary)
    c.self.inside.end c.end.new.self
    (answer_in c.end.result) (
      c.ends_hear_on.ensures g.F.WireSummary.summary,
      c.ends_keep_peers.ensures g.F.WireSummary.summary,
      c.parts_are_taken.ensures g.F.WireSummary.summary,
    )
    c.end.ensures.answer c.end.ensures.after c.end.ensures.memory c.self.invariant
