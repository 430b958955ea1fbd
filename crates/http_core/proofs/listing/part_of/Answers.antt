use Rattle.std.proofs.Common.{arith}
use Rattle.http_core.proofs.Listings.{part}
use Rattle.http_core.proofs.listing.part_of.Goals as goal

pub returns-clause-part : goal.returns-clause-part
returns-clause-part c A low =
    part A c.args.at.from c.args.at.to c.args.given _ _ low
    (omega (arith, c.min-from.ensures, c.saturating_add.ensures, c.ranges))
    (omega (arith, c.min.ensures, c.saturating_add-2.ensures))
