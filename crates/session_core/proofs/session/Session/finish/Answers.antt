use Rattle.std.proofs.Common.{rules}
use Rattle.session_core.proofs.Steps.{finish}
use Rattle.session_core.proofs.session.Session.finish.Goals as goal

pub returns-clause-knows : goal.returns-clause-knows
returns-clause-knows g c = λ s pushed taken live k.
    let after = finish g.F.WireSummary.summary g.F.WireSummary.profile c.stream_laws.ensures s c.args.self.now pushed
    taken live k in
    search (rules, after)
