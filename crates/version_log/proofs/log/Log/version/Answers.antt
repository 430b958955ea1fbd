use Rattle.std.proofs.Common.{rules}
use Rattle.version_log.proofs.Arrivals.{length_history}
use Rattle.version_log.proofs.log.Log.version.Goals as goal

pub returns-clause-version : goal.returns-clause-version
returns-clause-version g c =
    let A = g.S.RangeStore.content c.self.inside.store in
    let same = length_history c.self.inside.later.items A c.self.invariant.0 in
    search (rules, same)
