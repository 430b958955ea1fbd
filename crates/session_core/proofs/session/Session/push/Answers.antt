use Rattle.std.proofs.Common.{rules, ◌≡◌, false, ◌∙◌}
use Rattle.session_core.specs.Sessions.{is_open}
use Rattle.session_core.proofs.Calls.{push-ends}
use Rattle.session_core.proofs.session.Session.push.Goals as goal

pub returns-clause-pushes : goal.returns-clause-pushes
returns-clause-pushes g c = λ listens s pushed taken live k.
    let closed : is_open c.hear_all.new.self.talk.state ≡ false = search rules in
    push-ends g.F.WireSummary.summary g.F.WireSummary.profile c.stream_laws.ensures s c.hear_all.new.self
    c.args.piece.now
    c.in_ok-taken.taken pushed taken live closed (c.in_ok-taken.ensures.over ∙ listens) c.are_bytes.ensures
    (c.in_ok-taken.ensures.pushes s pushed taken live k)
