use Rattle.std.proofs.Common.{rules, ◌≡◌, [], true, OnOk, subst, sym}
use Rattle.session_core.specs.Sessions.{SessionState, Takes, all_made, with_outbox, with_talk}
use Rattle.session_core.proofs.Calls.{all-made}
use Rattle.session_core.proofs.session.Session.make_due.Goals as goal

pub returns-clause-knows : goal.returns-clause-knows
returns-clause-knows g c =
    let t = c.args.self.now.talk in
    let made : OnOk c.make_due.result (c.make_due.new.self
    ≡ with_outbox t (all_made g.F.WireSummary.profile t) true) = search rules in
    let after = all-made g.F.WireSummary.summary g.F.WireSummary.profile c.args.self.now c.make_due.new.self
    c.make_due.result made in
    subst (λ (x : SessionState g.row.F.Denot). OnOk c.make_due.result
    (Takes g.F.WireSummary.summary g.F.WireSummary.profile c.args.self.now [] (with_talk x c.make_due.new.self)))
    (sym c.self.view_is) after
