use Rattle.std.proofs.Common.{◌≡◌, ◌∙◌, rules, length, ap, sym, subst, [], List, ℕ, arith}
use Rattle.session_core.specs.Sessions.{SessionState, Takes, due}
use Rattle.sim_core.proofs.Turns.{all-taken, none-left, takes-all, pushes-all, pushes-nothing, none-of}
use Rattle.sim_core.proofs.costing.hand_over.Goals as goal

pub returns-clause-takes : goal.returns-clause-takes
returns-clause-takes g c =
    let ready = c.make_due.new.self.talk.outbox.ready in
    let whole : c.take.result ≡ length ready = search rules in
    takes-all g.F.WireSummary.summary g.F.WireSummary.profile c.args.from.now c.make_due.new.self c.take.new.self ready
    (due g.F.WireSummary.profile c.args.from.now.talk) c.take.result c.in_ok-make_due.ensures.knows
    (ap (λ (x : SessionState g.row.F.Denot). x.talk.outbox.ready) c.in_ok-make_due.ensures.made) whole
    c.take.ensures.takes

pub returns-clause-pushes : goal.returns-clause-pushes
returns-clause-pushes g c =
    let ready = c.make_due.new.self.talk.outbox.ready in
    let said = due g.F.WireSummary.profile c.args.from.now.talk in
    let made : ready ≡ said =
    ap (λ (x : SessionState g.row.F.Denot). x.talk.outbox.ready) c.in_ok-make_due.ensures.made in
    let piece : c.due.result.now ≡ ready = c.due.ensures in
    let whole : c.in_ok-push.field-0 ≡ length c.due.result.now = search rules in
    pushes-all g.F.WireSummary.summary g.F.WireSummary.profile c.args.to.now c.push.new.self c.due.result.now said
    c.in_ok-push.field-0 (piece ∙ made) whole (c.in_ok-push.ensures.pushes c.requires)

pub returns-then-count-eq0-clause-takes : goal.returns-then-count-eq0-clause-takes
returns-then-count-eq0-clause-takes g c =
    let ready = c.make_due.new.self.talk.outbox.ready in
    let said = due g.F.WireSummary.profile c.args.from.now.talk in
    let made : ready ≡ said =
    ap (λ (x : SessionState g.row.F.Denot). x.talk.outbox.ready) c.in_ok-make_due.ensures.made in
    let piece : c.due-count.result.now ≡ ready = c.due-count.ensures in
    let zero : length c.due-count.result.now ≡ 0 = search rules in
    let none : said ≡ [] = sym made ∙ sym piece ∙ none-of c.due-count.result.now zero in
    subst (λ (l : List ℕ). Takes g.F.WireSummary.summary g.F.WireSummary.profile c.args.from.now l c.make_due.new.self)
    (sym none) c.in_ok-make_due.ensures.knows

pub returns-then-count-eq0-clause-pushes : goal.returns-then-count-eq0-clause-pushes
returns-then-count-eq0-clause-pushes g c =
    let ready = c.make_due.new.self.talk.outbox.ready in
    let said = due g.F.WireSummary.profile c.args.from.now.talk in
    let made : ready ≡ said =
    ap (λ (x : SessionState g.row.F.Denot). x.talk.outbox.ready) c.in_ok-make_due.ensures.made in
    let piece : c.due-count.result.now ≡ ready = c.due-count.ensures in
    let zero : length c.due-count.result.now ≡ 0 = search rules in
    pushes-nothing g.F.WireSummary.summary g.F.WireSummary.profile c.args.to.now said
    (sym made ∙ sym piece ∙ none-of c.due-count.result.now zero)

pub returns-clause-done : goal.returns-clause-done
returns-clause-done g c =
    let whole : c.take.result ≡ length c.make_due.new.self.talk.outbox.ready = search rules in
    all-taken g.F.WireSummary.summary g.F.WireSummary.profile c.args.from.now c.make_due.new.self c.take.new.self
    c.take.result c.in_ok-make_due.ensures.made whole c.take.ensures.rest

pub returns-then-count-eq0-clause-done : goal.returns-then-count-eq0-clause-done
returns-then-count-eq0-clause-done g c =
    let ready = c.make_due.new.self.talk.outbox.ready in
    let said = due g.F.WireSummary.profile c.args.from.now.talk in
    let made : ready ≡ said =
    ap (λ (x : SessionState g.row.F.Denot). x.talk.outbox.ready) c.in_ok-make_due.ensures.made in
    let piece : c.due-count.result.now ≡ ready = c.due-count.ensures in
    let zero : length c.due-count.result.now ≡ 0 = search rules in
    none-left g.F.WireSummary.summary g.F.WireSummary.profile c.args.from.now c.make_due.new.self
    c.in_ok-make_due.ensures.made (sym made ∙ sym piece ∙ none-of c.due-count.result.now zero)
