use Rattle.std.proofs.Common.{rules, refl, subst, sym}
use Rattle.std.specs.Arc.{arc_value}
use Rattle.definitions.specs.Engines.{Speaker, responding}
use Rattle.ends_core.specs.Sides.{peer_of}
use Rattle.session_core.specs.Sessions.{SessionState, Begins}
use Rattle.session_core.proofs.Calls.{begins-opened}
use Rattle.session_core.proofs.session.Session+Responding+S+F.respond.Goals as goal

pub returns-clause-begins : goal.returns-clause-begins
returns-clause-begins g c =
    let a = arc_value c.args.accepted in
    let s : Speaker g.row.F.Denot =
    responding g.F.WireSummary.summary (peer_of (arc_value c.args.accepted) (g.S.RangeStore.content c.args.store)) in
    subst (λ (d : SessionState g.row.F.Denot). Begins g.F.WireSummary.summary g.F.WireSummary.profile a s d)
    (sym c.of.ensures)
    (begins-opened g.F.WireSummary.summary g.F.WireSummary.profile a s _ _ (search rules) (search rules) (search rules)
    refl (search rules) (search rules) (search rules))
