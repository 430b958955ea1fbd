use Rattle.std.proofs.Common.{◌≡◌, ◌≤◌, map, rules, refl, ap, subst, ◌∙◌}
use Rattle.std.specs.Prelude.{fold}
use Rattle.definitions.specs.Engines.{responding}
use Rattle.definitions.specs.Hearing.{Goes_on, hear}
use Rattle.definitions.specs.Wire.{Came}
use Rattle.peer_threads.specs.Outcomes.{IsTimely, seen}
use Rattle.peer_threads.specs.Underway.{StopsAmong}
use Rattle.peer_threads.proofs.Exchanges.{stops-refusing, stops-event}
use Rattle.peer_threads.proofs.Origins.{on-nothing}
use Rattle.peer_threads.proofs.Hearings.{adds-none}
use Rattle.peer_threads.proofs.Serving.{at-part, at-end, answers-first}
use Rattle.peer_threads.proofs.engines.answer.Goals as goal

pub returns-in_err-take_all-clause-talked : goal.returns-in_err-take_all-clause-talked
returns-in_err-take_all-clause-talked g c = λ p steps unread held new x.
    let same : c.deref.result.now ≡ c.args.begun.first.items = search rules in
    let among = subst (λ M. StopsAmong g.F.WireSummary.summary c.args.party.now M c.in_err-take_all.field-0.0) same
    c.in_err-take_all.ensures.stopped in
    let stopped = stops-refusing g.F.WireSummary.summary g.F.WireSummary.profile (IsTimely c.args.sender.now.sent)
    c.exchange_laws.ensures (responding g.F.WireSummary.summary p) _ _ _ _ _
    (seen c.args.connection.now.reader.failed c.args.connection.now.reader.ended) c.args.connection.now.writer.failed _
    c.in_err-take_all.field-0.0 refl
    (at-part g.F.WireSummary.summary g.F.WireSummary.profile p steps c.args.party.now _ _ _ _ _ new among x)
    among.refuses
    (adds-none g.F.WireSummary.summary g.F.WireSummary.profile _ _) in
    search (rules, stopped)

pub returns-in_err-end-clause-talked : goal.returns-in_err-end-clause-talked
returns-in_err-end-clause-talked g c = λ p steps unread held new x.
    let same : c.deref.result.now ≡ c.args.begun.first.items = search rules in
    let stopped = stops-event g.F.WireSummary.summary g.F.WireSummary.profile c.exchange_laws.ensures
    (responding g.F.WireSummary.summary p) _ _ _ _ _
    (seen c.args.connection.now.reader.failed c.args.connection.now.reader.ended)
    c.end.new.writer.failed _ c.in_err-end.field-0.0 refl
    (at-end g.F.WireSummary.summary g.F.WireSummary.profile p steps c.args.party.now
    c.take_all.new.party _ _ _ _ new (c.in_ok-take_all.ensures.heard ∙ ap (λ M. fold (hear g.F.WireSummary.summary)
    (Goes_on c.args.party.now.end c.args.party.now.taken) (map Came M)) same) c.in_ok-take_all.ensures.end x)
    c.in_err-end.ensures.stopped in
    search (rules, stopped)

pub returns-in_err-end-clause-few : goal.returns-in_err-end-clause-few
returns-in_err-end-clause-few g c =
    subst (λ n. c.end.new.sender.sent ≤ n) c.in_ok-take_all.ensures.most c.in_err-end.ensures.few

pub returns-clause-talked : goal.returns-clause-talked
returns-clause-talked g c = λ p steps unread held new x.
    let same : c.deref.result.now ≡ c.args.begun.first.items = search rules in
    c.talk.ensures.talked (responding g.F.WireSummary.summary p) unread held refl
    (answers-first g.F.WireSummary.summary g.F.WireSummary.profile c.exchange_laws.ensures p steps c.args.party.now
    c.take_all.new.party c.end.new.party _ _ _ _ _ _ new
    (c.in_ok-take_all.ensures.heard ∙ ap (λ M. fold (hear g.F.WireSummary.summary)
    (Goes_on c.args.party.now.end c.args.party.now.taken) (map Came M)) same) c.in_ok-take_all.ensures.end x
    c.in_ok-end.ensures.heard c.in_ok-end.ensures.said)

pub returns-clause-few : goal.returns-clause-few
returns-clause-few g c = subst (λ n. c.talk.new.sender.sent ≤ n)
    (c.in_ok-end.ensures.most ∙ c.in_ok-take_all.ensures.most) c.talk.ensures.few

pub returns-in_err-take_all-clause-on : goal.returns-in_err-take_all-clause-on
returns-in_err-take_all-clause-on g c = λ p steps unread held new x. on-nothing _

pub returns-in_err-end-clause-on : goal.returns-in_err-end-clause-on
returns-in_err-end-clause-on g c = λ p steps unread held new x. on-nothing _

pub returns-clause-on : goal.returns-clause-on
returns-clause-on g c = λ p steps unread held new x.
    let same : c.deref.result.now ≡ c.args.begun.first.items = search rules in
    c.talk.ensures.on (responding g.F.WireSummary.summary p) unread held refl
    (answers-first g.F.WireSummary.summary g.F.WireSummary.profile c.exchange_laws.ensures p steps c.args.party.now
    c.take_all.new.party c.end.new.party _ _ _ _ _ _ new
    (c.in_ok-take_all.ensures.heard ∙ ap (λ M. fold (hear g.F.WireSummary.summary)
    (Goes_on c.args.party.now.end c.args.party.now.taken) (map Came M)) same) c.in_ok-take_all.ensures.end x
    c.in_ok-end.ensures.heard c.in_ok-end.ensures.said)
