use Rattle.ends_core.specs.Turns.{told_in}
use Rattle.ends_core.proofs.Standing.{able, stands-taken}
use Rattle.ends_core.specs.Roles.{start_of}
use Rattle.ends_core.proofs.session_end.SessionEnd.take.Goals as goal

pub take-requires : goal.take-requires
take-requires g c =
    able g.F.WireSummary.summary g.F.WireSummary.profile g.R.Role.side c.self.inside.end
    (c.ends_stand_firm.ensures g.F.WireSummary.summary) c.self.invariant

pub invariant_of-self : goal.invariant_of-self
invariant_of-self g c =
    stands-taken g.F.WireSummary.summary g.F.WireSummary.profile (start_of g.R.Role.side g.F.WireSummary.summary)
    c.self.inside.end c.take.new.self c.args.part.now
    (told_in c.take.result) (
      c.ends_hear_on.ensures g.F.WireSummary.summary,
      c.ends_keep_peers.ensures g.F.WireSummary.summary,
      c.parts_are_taken.ensures g.F.WireSummary.summary,
    )
    c.range.ensures.part c.take.ensures.fault c.take.ensures.after c.take.ensures.memory c.self.invariant
