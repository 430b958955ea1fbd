use Rattle.std.proofs.Common.{rules, ◌≡◌, length, ap, refl}
use Rattle.session_core.specs.Sessions.{SessionState, HearsIf, begun_after, is_open}
use Rattle.session_core.proofs.Steps.{piece-heard}
use Rattle.session_core.proofs.session.Session.go_on.Goals as goal

pub returns-clause-pushes : goal.returns-clause-pushes
returns-clause-pushes g c = λ s pushed taken live k.
    let d : SessionState g.row.F.Denot =
    record {
      talk = c.hear.new.self;
      feed = c.args.feed;
      over = c.args.self.now.over;
      begun = c.bytes_begun-begun.result;
    } in
    let heard : HearsIf g.F.WireSummary.summary g.F.WireSummary.profile c.args.self.now.talk c.args.event
    c.hear.new.self =
    search rules in
    let begun : c.bytes_begun-begun.result ≡ begun_after c.args.event c.args.self.now.begun (length c.args.piece.now) =
    search rules in
    let after = piece-heard g.F.WireSummary.summary g.F.WireSummary.profile c.stream_laws.ensures s c.args.self.now d
    c.args.event c.args.piece.now pushed taken live (ap is_open c.requires.open) c.requires.bytes heard refl begun
    c.requires.fed k in
    search (rules, after)
