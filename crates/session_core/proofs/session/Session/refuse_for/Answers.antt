use Rattle.std.proofs.Common.{rules, ◌≡◌, ap, refl}
use Rattle.wire_core.specs.Refused.{fault_number}
use Rattle.session_core.specs.Sessions.{SessionState, is_open, refused_by}
use Rattle.session_core.proofs.Steps.{faulty}
use Rattle.session_core.proofs.session.Session.refuse_for.Goals as goal

pub returns-clause-pushes : goal.returns-clause-pushes
returns-clause-pushes g c = λ s pushed taken live k.
    let d : SessionState g.row.F.Denot =
    record { talk = c.refuse.new.self; feed = c.args.feed; over = c.args.self.now.over; begun = 0 } in
    let talk : c.refuse.new.self ≡ refused_by c.args.self.now.talk (fault_number c.args.fault) = search rules in
    let after = faulty g.F.WireSummary.summary g.F.WireSummary.profile c.stream_laws.ensures s c.args.self.now d
    (fault_number c.args.fault) c.args.piece.now pushed taken live (ap is_open c.requires.open) c.requires.bytes talk
    refl c.requires.fed c.requires.fault k in
    search (rules, after)
