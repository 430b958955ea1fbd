use Rattle.std.proofs.Common.{rules, ◌≡◌, true, [], length, ap, refl}
use Rattle.wire_core.specs.Feeds.{fed_into}
use Rattle.ends_core.specs.Sizes.{plus}
use Rattle.session_core.specs.Sessions.{SessionState, feed_of, is_open}
use Rattle.session_core.proofs.Steps.{piece-kept}
use Rattle.session_core.proofs.session.Session.keep.Goals as goal

pub returns-clause-pushes : goal.returns-clause-pushes
returns-clause-pushes g c = λ kept.
    let d : SessionState g.row.F.Denot = record {
      talk = c.args.self.now.talk;
      feed = c.keep.new.self;
      over = c.args.self.now.over;
      begun = c.saturating_add-self-inside.result;
    } in
    let begun : c.saturating_add-self-inside.result ≡ plus c.args.self.now.begun (length c.args.piece.now) =
    search rules in
    let yes : c.in_ok-keep.field-0 ≡ true = search rules in
    let step = c.in_ok-keep.ensures.kept yes in
    let fed : feed_of g.F.WireSummary.profile c.args.self.now.feed c.args.piece.now ≡ fed_into [] c.keep.new.self =
    search (rules, step.0) in
    let after = piece-kept g.F.WireSummary.summary g.F.WireSummary.profile c.stream_laws.ensures c.args.self.now d
    c.args.piece.now (ap is_open c.requires.open) c.requires.bytes refl refl begun fed step.1 in
    search (rules, after)
