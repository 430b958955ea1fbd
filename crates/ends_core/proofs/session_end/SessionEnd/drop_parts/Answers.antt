use Rattle.ends_core.proofs.Standing.{stands-dropped}
use Rattle.ends_core.specs.Roles.{start_of}
use Rattle.ends_core.proofs.session_end.SessionEnd.drop_parts.Goals as goal

pub invariant_of-self : goal.invariant_of-self
invariant_of-self g c =
    stands-dropped g.F.WireSummary.summary g.F.WireSummary.profile (start_of g.R.Role.side g.F.WireSummary.summary)
    c.self.inside.end c.drop_parts.new.self
    c.drop_parts.ensures c.self.invariant
