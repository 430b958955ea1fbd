use Rattle.std.proofs.Common.{rules, ◌≡◌, ◌≤◌, length, min, arith}
use Rattle.session_core.proofs.Calls.{takes-some}
use Rattle.session_core.proofs.session.Session.take.Goals as goal

pub returns-clause-takes : goal.returns-clause-takes
returns-clause-takes g c = λ s pushed taken k.
    let ready = c.args.self.now.talk.outbox.ready in
    let count : c.take.result ≡ min c.args.count (length ready) = search rules in
    let fits : c.take.result ≤ length ready = omega (arith, count) in
    let after = takes-some g.F.WireSummary.summary g.F.WireSummary.profile s c.args.self.now c.take.result pushed taken
    fits k
    in
    search (rules, after)
