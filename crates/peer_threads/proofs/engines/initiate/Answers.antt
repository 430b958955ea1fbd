use Rattle.std.proofs.Common.{◌≤◌, ◌+◌, ap, subst, ◌∙◌}
use Rattle.std.specs.Arc.{arc_value}
use Rattle.definitions.specs.Engines.{initiating}
use Rattle.definitions.specs.Worlds.{Initiator, opened_of}
use Rattle.session_table.specs.Faults.{table_fault_number}
use Rattle.peer_threads.specs.declared.stop.Stop.TheVariants as stops
use Rattle.peer_threads.specs.Outcomes.{Reader, IsTimely, traffic, seen}
use Rattle.ends_core.specs.Sides.{peer_of}
use Rattle.peer_threads.specs.Stops.{outcome_of}
use Rattle.peer_threads.specs.Underway.{Leaves, Spoke, most_sent}
use Rattle.peer_threads.proofs.Dialing.{stops-silent, stops-unbooked, speaks-unsaid}
use Rattle.peer_threads.proofs.engines.initiate.Goals as goal

pub returns-in-Err-clause-bytes : goal.returns-in-Err-clause-bytes
returns-in-Err-clause-bytes g c =
    let s = initiating g.F.WireSummary.summary (peer_of (arc_value c.args.host.now.accepted.now) c.args.pin.items) in
    let unread = g.R.Read.remaining c.args.connection.now.reader.inner in
    let held = g.W.Write.contents c.args.connection.now.writer.inner in
    let r = seen c.args.connection.now.reader.failed c.args.connection.now.reader.ended in
    let o = c.new-sender.result in
    speaks-unsaid g.F.WireSummary.summary g.F.WireSummary.profile s c.args.pin.version _ o unread held
    (g.W.Write.contents c.stopped.new.writer.inner) r
    (seen c.stopped.new.writer.failed c.stopped.new.writer.ended) c.args.connection.now.writer.failed stops.Memory
    c.stopped.result
    c.new-sender.ensures
    (stops-silent g.F.WireSummary.summary g.F.WireSummary.profile (IsTimely o.sent) s o unread held r
    c.args.connection.now.writer.failed
    c.new-sender.ensures) c.stopped.ensures.leaves
    c.stopped.ensures.outcome

pub returns-in-Err-open-clause-bytes : goal.returns-in-Err-open-clause-bytes
returns-in-Err-open-clause-bytes g c =
    let s = initiating g.F.WireSummary.summary (peer_of (arc_value c.args.host.now.accepted.now) c.args.pin.items) in
    let unread = g.R.Read.remaining c.args.connection.now.reader.inner in
    let held = g.W.Write.contents c.args.connection.now.writer.inner in
    let holds = g.W.Write.contents c.stopped-in-Err-open.new.writer.inner in
    let r = seen c.args.connection.now.reader.failed c.args.connection.now.reader.ended in
    let w = seen c.stopped-in-Err-open.new.writer.failed c.stopped-in-Err-open.new.writer.ended in
    let o = c.new-sender.result in
    let code = table_fault_number c.in-Err-open.refusal.fault in
    let broken = c.args.connection.now.writer.failed in
    speaks-unsaid g.F.WireSummary.summary g.F.WireSummary.profile s c.args.pin.version _ o unread held holds r w broken
    (stops.Refused code)
    c.stopped-in-Err-open.result
    c.new-sender.ensures (stops-unbooked g.F.WireSummary.summary g.F.WireSummary.profile s o unread held r broken code
    c.new-sender.ensures
    c.in-Err-open.ensures.refused)
    (subst (λ x. Leaves g.F.WireSummary.profile o held holds broken w.failed x) c.from.ensures
    c.stopped-in-Err-open.ensures.leaves)
    (c.stopped-in-Err-open.ensures.outcome ∙ ap (λ x. outcome_of o.sent x) c.from.ensures)

pub returns-clause-bytes : goal.returns-clause-bytes
returns-clause-bytes g c =
    let a = arc_value c.args.host.now.accepted.now in
    let items = c.args.pin.items in
    let is = c.in-Ok.ensures.end in
    let opens = c.in-Ok.ensures.message in
    let s = initiating g.F.WireSummary.summary (peer_of a items) in
    let bound = opened_of g.F.WireSummary.summary a.steps (peer_of a items) + 2 in
    let unread = g.R.Read.remaining c.args.connection.now.reader.inner in
    let left = g.R.Read.remaining c.speak-talked.new.connection.reader.inner in
    let held = g.W.Write.contents c.args.connection.now.writer.inner in
    let holds = g.W.Write.contents c.concluded-outcome.new.writer.inner in
    let r = seen c.speak-talked.new.connection.reader.failed c.speak-talked.new.connection.reader.ended in
    let w = seen c.concluded-outcome.new.writer.failed c.concluded-outcome.new.writer.ended in
    subst (λ v. Spoke g.F.WireSummary.summary g.F.WireSummary.profile s v bound
    (traffic unread left held holds) r w c.concluded-outcome.result) c.version-version.ensures
    (c.concluded-outcome.ensures.bytes s bound (Reader unread) left held r
    (c.speak-talked.ensures.talked (peer_of a items) a.steps is opens)
    (subst (λ x. c.speak-talked.new.sender.sent ≤ most_sent g.F.WireSummary.summary Initiator x) is
    c.speak-talked.ensures.few))

pub returns-clause-fared : goal.returns-clause-fared
returns-clause-fared g c =
    c.concluded-outcome.ensures.fared c.args.connection.now.reader.reads c.speak-talked.new.connection.reader.reads
    c.speak-talked.new.connection.reader.failed c.speak-talked.ensures.fared
