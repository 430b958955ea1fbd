use Rattle.std.proofs.Common.{◌≡◌, IfSome, IfNone, subst, rules}
use Rattle.definitions.specs.Ends.{answer}
use Rattle.ends_core.specs.EndStates.{HasNone}
use Rattle.ends_core.specs.Turns.{IsJudged, answer_in, end_after}
use Rattle.ends_core.proofs.Short.{message-short}
use Rattle.ends_core.proofs.Judging.{judged}
use Rattle.ends_core.proofs.Standing.{able, countable, stands-received}
use Rattle.ends_core.proofs.Parts_taken.{whole-answer, whole-after, whole-memory}
use Rattle.ends_core.specs.Roles.{start_of}
use Rattle.ends_core.proofs.session_end.SessionEnd.receive.Goals as goal

pub receive-requires-clause-able : goal.receive-requires-clause-able
receive-requires-clause-able g c =
    able g.F.WireSummary.summary g.F.WireSummary.profile g.R.Role.side c.self.inside.end
    (c.ends_stand_firm.ensures g.F.WireSummary.summary) c.self.invariant

pub receive-requires-clause-room : goal.receive-requires-clause-room
receive-requires-clause-room g c =
    countable g.F.WireSummary.summary g.F.WireSummary.profile g.R.Role.side c.self.inside.end
    (c.ends_stand_firm.ensures g.F.WireSummary.summary) c.ranks_are_read.ensures c.self.invariant

pub returns-clause-short : goal.returns-clause-short
returns-clause-short g c =
    let short = message-short g.F.WireSummary.summary g.F.WireSummary.profile
    (start_of g.R.Role.side g.F.WireSummary.summary) c.self.inside.end c.args.message.now
    c.receive.result (c.replies_are_short.ensures g.F.WireSummary.summary)
    (c.parts_are_taken.ensures g.F.WireSummary.summary) c.self.invariant c.receive.ensures.answer in
    search (rules, short)

pub returns-clause-answer : goal.returns-clause-answer
returns-clause-answer g c =
    subst (λ h. HasNone h → IfSome (answer_in c.receive.result)
    (λ a. a ≡ answer g.F.WireSummary.summary h.end c.args.message.now))
    c.self.view_is
    (whole-answer g.F.WireSummary.summary c.self.inside.end c.args.message.now (answer_in c.receive.result)
    (c.parts_are_taken.ensures g.F.WireSummary.summary)
    c.receive.ensures.answer)

pub returns-clause-after : goal.returns-clause-after
returns-clause-after g c =
    subst (λ h. HasNone h → IfSome (answer_in c.receive.result)
    (λ a. c.receive.new.self ≡ end_after g.F.WireSummary.summary h c.args.message.now))
    c.self.view_is
    (whole-after g.F.WireSummary.summary c.self.inside.end c.receive.new.self c.args.message.now
    (answer_in c.receive.result)
    (c.parts_are_taken.ensures g.F.WireSummary.summary) c.receive.ensures.answer c.receive.ensures.after)

pub returns-clause-memory : goal.returns-clause-memory
returns-clause-memory g c =
    subst (λ h. HasNone h → IfNone (answer_in c.receive.result) (c.receive.new.self ≡ h)) c.self.view_is
    (whole-memory c.self.inside.end c.receive.new.self (answer_in c.receive.result) c.receive.ensures.memory)

pub invariant_of-self : goal.invariant_of-self
invariant_of-self g c =
    stands-received g.F.WireSummary.summary g.F.WireSummary.profile (start_of g.R.Role.side g.F.WireSummary.summary)
    c.self.inside.end c.receive.new.self
    c.args.message.now (answer_in c.receive.result) (
      c.ends_hear_on.ensures g.F.WireSummary.summary,
      c.ends_keep_peers.ensures g.F.WireSummary.summary,
      c.parts_are_taken.ensures g.F.WireSummary.summary,
    )
    c.parts.ensures.message.parts c.receive.ensures.answer c.receive.ensures.after c.receive.ensures.memory
    c.self.invariant

pub returns-clause-judged : goal.returns-clause-judged
returns-clause-judged g c =
    let rise = c.messages_have_ranges.ensures g.F.WireSummary.profile c.args.message.now c.parts.ensures.message in
    let has = able g.F.WireSummary.summary g.F.WireSummary.profile g.R.Role.side c.self.inside.end
    (c.ends_stand_firm.ensures g.F.WireSummary.summary) c.self.invariant in
    subst (λ h. HasNone h → IsJudged h c.args.message.now c.receive.result) c.self.view_is
    (λ none. judged g.F.WireSummary.summary c.self.inside.end c.args.message.now c.receive.result
    c.placing_is_exact.ensures c.opening_is_exact.ensures
    has.apart rise
    (whole-answer g.F.WireSummary.summary c.self.inside.end c.args.message.now (answer_in c.receive.result)
    (c.parts_are_taken.ensures g.F.WireSummary.summary)
    c.receive.ensures.answer none))
