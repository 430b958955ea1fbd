use Rattle.std.proofs.Common.{◌≡◌, ◌≤◌, false, true, Err, rules, arith, subst, ◌∙◌}
use Rattle.definitions.specs.Ends.{is_over}
use Rattle.peer_threads.specs.Outcomes.{seen}
use Rattle.peer_threads.proofs.Exchanges.{at-event, goes-on, stops-event, stops-underway}
use Rattle.peer_threads.proofs.Exchanges.{finished}
use Rattle.peer_threads.proofs.Origins.{on-further}
use Rattle.peer_threads.proofs.Listenings.{event-fares, fares-by}
use Rattle.wire_core.specs.Events.{event_value}
use Rattle.peer_threads.proofs.talk.talk.Goals as goal

pub returns-then-is_over-clause-talked : goal.returns-then-is_over-clause-talked
returns-then-is_over-clause-talked g c = λ s unread held live start.
    let over : is_over c.turns.party.end.stage ≡ true = search rules in
    finished g.F.WireSummary.summary g.F.WireSummary.profile c.exchange_laws.ensures s _ _ _ _ live
    (c.turns.invariant.goes s unread held live start).0 over

pub returns-in_err-event-clause-talked : goal.returns-in_err-event-clause-talked
returns-in_err-event-clause-talked g c = λ s unread held live start.
    let u = (c.turns.invariant.goes s unread held live start).0 in
    let goes : is_over c.turns.party.end.stage ≡ false = search rules in
    let stops = stops-underway g.F.WireSummary.summary g.F.WireSummary.profile c.exchange_laws.ensures s _ _ _ _ _
    (seen c.next.new.reader.failed c.next.new.reader.ended)
    c.turns.connection.writer.failed c.in_err-event.field-0.0 live u goes
    (c.in_err-event.ensures.read u.bytes u.events u.are_bytes u.came) in
    search (rules, stops)

pub returns-in_err-hear-clause-talked : goal.returns-in_err-hear-clause-talked
returns-in_err-hear-clause-talked g c = λ s unread held live start.
    let u = (c.turns.invariant.goes s unread held live start).0 in
    let goes : is_over c.turns.party.end.stage ≡ false = search rules in
    let x = at-event g.F.WireSummary.summary g.F.WireSummary.profile s _ _ _ _ _ _ _ u
    (c.in_ok-event.ensures.read u.bytes u.events u.are_bytes u.came) goes in
    let stops =
    stops-event g.F.WireSummary.summary g.F.WireSummary.profile c.exchange_laws.ensures s _ _ _ _ _
    (seen c.next.new.reader.failed c.next.new.reader.ended) c.hear.new.writer.failed _
    c.in_err-hear.field-0.0 live x c.in_err-hear.ensures.stopped in
    search (rules, stops)

pub turns-preserved : goal.turns-preserved
turns-preserved g c = record {
  fine = c.in_ok-hear.ensures.fine;
  listens = c.in_ok-event.ensures.listens;
  step = λ start step. c.in_ok-event.ensures.step start (c.turns.invariant.step start step);
  count = c.in_ok-hear.ensures.count;
  most = c.in_ok-hear.ensures.most ∙ c.turns.invariant.most;
  few = subst (λ n. c.hear.new.sender.sent ≤ n) c.turns.invariant.most c.in_ok-hear.ensures.few;
  reads = λ few.
      let so = c.turns.invariant.reads few in
      let now = c.in_ok-event.ensures.reads in
      (omega (arith, so.0, now.0), now.1);
  goes = λ s unread held live start.
      let u = (c.turns.invariant.goes s unread held live start).0 in
      let goes : is_over c.turns.party.end.stage ≡ false = search rules in
      let more = c.in_ok-event.ensures.read u.bytes u.events u.are_bytes u.came in
      let x = at-event g.F.WireSummary.summary g.F.WireSummary.profile s _ _ _ _ _ _ _ u more goes in
      let next =
      goes-on g.F.WireSummary.summary g.F.WireSummary.profile c.exchange_laws.ensures s _ _ _ _ _ _ _ _ live x more.3
      c.in_ok-hear.ensures.heard c.in_ok-hear.ensures.said in
      let on = (c.turns.invariant.goes s unread held live start).1 in
      (next, on-further _ _ _ on (more.0, more.1, more.2));
}

pub returns-then-is_over-clause-on : goal.returns-then-is_over-clause-on
returns-then-is_over-clause-on g c = λ s unread held live start.
    (c.turns.invariant.goes s unread held live start).1

pub returns-in_err-event-clause-on : goal.returns-in_err-event-clause-on
returns-in_err-event-clause-on g c = λ s unread held live start.
    let so = c.turns.invariant.goes s unread held live start in
    let more = c.in_err-event.ensures.read so.0.bytes so.0.events so.0.are_bytes so.0.came in
    on-further _ _ _ so.1 (more.0, more.1, more.2)

pub returns-in_err-hear-clause-on : goal.returns-in_err-hear-clause-on
returns-in_err-hear-clause-on g c = λ s unread held live start.
    let so = c.turns.invariant.goes s unread held live start in
    let more = c.in_ok-event.ensures.read so.0.bytes so.0.events so.0.are_bytes so.0.came in
    on-further _ _ _ so.1 (more.0, more.1, more.2)

pub returns-then-is_over-clause-fared : goal.returns-then-is_over-clause-fared
returns-then-is_over-clause-fared g c = λ start step. c.turns.invariant.listens

pub returns-in_err-event-clause-fared : goal.returns-in_err-event-clause-fared
returns-in_err-event-clause-fared g c = λ start step.
    let fared = c.in_err-event.ensures.fared start (c.turns.invariant.step start step) in
    search (rules, fared)

pub returns-in_err-hear-clause-fared : goal.returns-in_err-hear-clause-fared
returns-in_err-hear-clause-fared g c = λ start step.
    let fine = c.in_ok-event.ensures.listens in
    let is : c.from_residual-in_err-hear.result ≡ Err c.in_err-hear.field-0.0 = search rules in
    fares-by start c.next.new.reader.reads c.next.new.reader.failed c.from_residual-in_err-hear.result
    c.in_err-hear.field-0.0 is
    (event-fares g.F.WireSummary.summary g.F.WireSummary.profile c.turns.party (event_value c.in_ok-event.event)
    c.turns.sender
    c.hear.new.sender (g.W.Write.contents c.turns.connection.writer.inner) (g.W.Write.contents c.hear.new.writer.inner)
    c.hear.new.writer.failed c.in_err-hear.field-0.0 start c.next.new.reader.reads c.next.new.reader.failed
    c.in_err-hear.ensures.stopped fine)
