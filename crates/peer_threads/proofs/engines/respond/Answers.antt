use Rattle.std.proofs.Common.{◌≤◌, ◌+◌, length, subst, ap, ◌∙◌}
use Rattle.std.specs.Arc.{arc_value}
use Rattle.definitions.specs.Engines.{responding}
use Rattle.definitions.specs.Worlds.{Responder}
use Rattle.definitions.specs.Ranks.{rank_by}
use Rattle.session_table.specs.Faults.{table_fault_number}
use Rattle.peer_threads.specs.declared.stop.Stop.TheVariants as stops
use Rattle.peer_threads.specs.Outcomes.{traffic_of, seen}
use Rattle.ends_core.specs.Sides.{peer_of}
use Rattle.peer_threads.specs.Stops.{outcome_of}
use Rattle.peer_threads.specs.Underway.{Leaves, Spoke, most_sent}
use Rattle.peer_threads.proofs.Origins.{on-nothing}
use Rattle.peer_threads.proofs.Serving.{stops-poor, stops-unlisted, speaks-stopped}
use Rattle.peer_threads.proofs.engines.respond.Goals as goal

pub returns-in-Err-clause-bytes : goal.returns-in-Err-clause-bytes
returns-in-Err-clause-bytes g c = λ unread held x.
    let p = peer_of (arc_value c.args.host.now.accepted.now) c.args.pin.items in
    let t = traffic_of unread (g.R.Read.remaining c.args.connection.now.reader.inner) held
    (g.W.Write.contents c.args.connection.now.writer.inner) in
    let r = seen c.args.connection.now.reader.failed c.args.connection.now.reader.ended in
    let w = seen c.stopped.new.writer.failed c.stopped.new.writer.ended in
    let o = c.args.sender in
    speaks-stopped g.F.WireSummary.summary g.F.WireSummary.profile p c.args.pin.version _ o t
    (g.W.Write.contents c.stopped.new.writer.inner) r w c.args.connection.now.writer.failed stops.Memory
    c.stopped.result
    c.requires.none
    (stops-poor g.F.WireSummary.summary g.F.WireSummary.profile p _ o t r c.args.connection.now.writer.failed _ x)
    c.stopped.ensures.leaves c.stopped.ensures.outcome

pub returns-in-Err-clause-on : goal.returns-in-Err-clause-on
returns-in-Err-clause-on g c = λ unread held x. on-nothing _

pub returns-in-Err-open-clause-bytes : goal.returns-in-Err-open-clause-bytes
returns-in-Err-open-clause-bytes g c = λ unread held x.
    let p = peer_of (arc_value c.args.host.now.accepted.now) c.args.pin.items in
    let t = traffic_of unread (g.R.Read.remaining c.args.connection.now.reader.inner) held
    (g.W.Write.contents c.args.connection.now.writer.inner) in
    let holds = g.W.Write.contents c.stopped-in-Err-open.new.writer.inner in
    let r = seen c.args.connection.now.reader.failed c.args.connection.now.reader.ended in
    let w = seen c.stopped-in-Err-open.new.writer.failed c.stopped-in-Err-open.new.writer.ended in
    let o = c.args.sender in
    let code = table_fault_number c.in-Err-open.refusal.fault in
    let broken = c.args.connection.now.writer.failed in
    speaks-stopped g.F.WireSummary.summary g.F.WireSummary.profile p c.args.pin.version _ o t holds r w broken
    (stops.Refused code) c.stopped-in-Err-open.result c.requires.none
    (stops-unlisted g.F.WireSummary.summary g.F.WireSummary.profile p _ o t r broken _ code x
    c.in-Err-open.ensures.refused c.requires.none)
    (subst (λ y. Leaves g.F.WireSummary.profile o t.holds holds broken w.failed y) c.from.ensures
    c.stopped-in-Err-open.ensures.leaves)
    (c.stopped-in-Err-open.ensures.outcome ∙ ap (λ y. outcome_of o.sent y) c.from.ensures)

pub returns-clause-bytes : goal.returns-clause-bytes
returns-clause-bytes g c = λ unread held x.
    let a = arc_value c.args.host.now.accepted.now in
    let p = peer_of a c.args.pin.items in
    let is = c.in-Ok.ensures in
    let bound = rank_by a.steps (length c.args.pin.items) + 1 in
    let left = g.R.Read.remaining c.answer-talked.new.connection.reader.inner in
    let holds = g.W.Write.contents c.concluded-outcome.new.writer.inner in
    let r = seen c.answer-talked.new.connection.reader.failed c.answer-talked.new.connection.reader.ended in
    let w = seen c.concluded-outcome.new.writer.failed c.concluded-outcome.new.writer.ended in
    subst (λ v. Spoke g.F.WireSummary.summary g.F.WireSummary.profile (responding g.F.WireSummary.summary p) v bound
    (traffic_of unread left held holds) r w c.concluded-outcome.result) c.version-version.ensures
    (c.concluded-outcome.ensures.bytes (responding g.F.WireSummary.summary p) bound unread left held r
    (c.answer-talked.ensures.talked p a.steps unread held is x)
    (subst (λ h. c.answer-talked.new.sender.sent ≤ most_sent g.F.WireSummary.summary Responder h) is
    c.answer-talked.ensures.few))

pub returns-in-Err-open-clause-on : goal.returns-in-Err-open-clause-on
returns-in-Err-open-clause-on g c = λ unread held x. on-nothing _

pub returns-clause-on : goal.returns-clause-on
returns-clause-on g c = λ unread held x.
    let a = arc_value c.args.host.now.accepted.now in
    let is = c.in-Ok.ensures in
    c.answer-talked.ensures.on (peer_of a c.args.pin.items) a.steps unread held is x

pub returns-clause-fared : goal.returns-clause-fared
returns-clause-fared g c = λ start step.
    c.concluded-outcome.ensures.fared start c.answer-talked.new.connection.reader.reads
    c.answer-talked.new.connection.reader.failed (c.answer-talked.ensures.fared start step)
