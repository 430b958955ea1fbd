use Rattle.wire_core.specs.Standings.{standing_of}
use Rattle.wire_core.proofs.Held.{kept_few}
use Rattle.wire_core.proofs.pieces.are_few.Goals as goal

pub returns : goal.returns
returns g c =
    kept_few g.F.WireSummary.profile (c.feeds_rest.ensures g.F.WireSummary.profile g.met.F.WireSummary.real)
    (standing_of c.args.standing) c.args.kept.now c.are_bytes.ensures c.requires
