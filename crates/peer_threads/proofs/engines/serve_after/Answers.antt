use Rattle.std.proofs.Common.{refl, inr}
use Rattle.std.specs.Arc.{arc_value}
use Rattle.definitions.specs.Engines.{responding}
use Rattle.peer_threads.specs.declared.stop.Stop.TheVariants as stops
use Rattle.peer_threads.specs.Outcomes.{After, seen, peer_at}
use Rattle.peer_threads.proofs.Endings.{speaks, stopped-anyhow}
use Rattle.peer_threads.proofs.Origins.{on-nothing}
use Rattle.peer_threads.proofs.Serving.{untold, unopened, serves, speaks-stopped, stops-poor, came-first}
use Rattle.peer_threads.proofs.engines.serve_after.Goals as goal

pub returns-in-Err-clause-view : goal.returns-in-Err-clause-view
returns-in-Err-clause-view g c =
    let r = seen c.first_message.new.connection.reader.failed c.first_message.new.connection.reader.ended in
    let w = seen c.stopped.new.writer.failed c.stopped.new.writer.ended in
    inr (
      refl,
      unopened g.F.WireSummary.summary g.F.WireSummary.profile c.first_message.new.sender _
          (g.W.Write.contents c.stopped.new.writer.inner) r w c.first_message.new.connection.writer.failed c.in-Err.stop
          c.stopped.result
          c.first_message.ensures.none
          (untold c.first_message.result c.in-Err.stop _ c.in-Err.is c.first_message.ensures.stopped)
          c.stopped.ensures.leaves
          c.stopped.ensures.outcome,
    )

pub returns-in-Err-clause-bytes : goal.returns-in-Err-clause-bytes
returns-in-Err-clause-bytes g c =
    let v = c.args.seat.now.view in
    let p = peer_at (arc_value c.args.shared.now.accepted.now) v in
    let r = seen c.first_message.new.connection.reader.failed c.first_message.new.connection.reader.ended in
    let w = seen c.stopped.new.writer.failed c.stopped.new.writer.ended in
    let why = stopped-anyhow g.F.WireSummary.summary g.F.WireSummary.profile (responding g.F.WireSummary.summary p)
    c.first_message.new.sender _ r
    c.first_message.new.connection.writer.failed c.in-Err.stop
    (untold c.first_message.result c.in-Err.stop _ c.in-Err.is c.first_message.ensures.stopped p) in
    speaks g.F.WireSummary.summary g.F.WireSummary.profile _ (responding g.F.WireSummary.summary p) _ _ _ _ r w
    c.stopped.result (speaks-stopped g.F.WireSummary.summary g.F.WireSummary.profile p _ _ c.first_message.new.sender _
    (g.W.Write.contents c.stopped.new.writer.inner) r w c.first_message.new.connection.writer.failed c.in-Err.stop
    c.stopped.result
    c.first_message.ensures.none why c.stopped.ensures.leaves c.stopped.ensures.outcome)
    (c.sides_keep_bounds.ensures.responder v.base)

pub returns-in-Ok-pin-clause-bytes : goal.returns-in-Ok-pin-clause-bytes
returns-in-Ok-pin-clause-bytes g c =
    let met = c.in-Ok.ensures.met in
    serves g.F.WireSummary.summary g.F.WireSummary.profile (arc_value c.args.shared.now.accepted.now) _
    c.pin.new.seat.view c.in-Ok-pin.pin
    _ _ _ c.respond.result
    c.in-Ok-pin.ensures.pin c.of-host.ensures
    (c.respond.ensures.bytes (After c.args.hello.bytes (g.R.Read.remaining c.args.connection.now.reader.inner))
    (g.W.Write.contents c.args.connection.now.writer.inner) met) c.sides_keep_bounds.ensures.responder

pub returns-in-Err-pin-clause-bytes : goal.returns-in-Err-pin-clause-bytes
returns-in-Err-pin-clause-bytes g c =
    let found = c.pin.new.seat.view in
    let p = peer_at (arc_value c.args.shared.now.accepted.now) found in
    let r = seen c.first_message.new.connection.reader.failed c.first_message.new.connection.reader.ended in
    let w = seen c.stopped-in-Err-pin.new.writer.failed c.stopped-in-Err-pin.new.writer.ended in
    speaks g.F.WireSummary.summary g.F.WireSummary.profile _ (responding g.F.WireSummary.summary p) _ _ _ _ r w
    c.stopped-in-Err-pin.result
    (speaks-stopped g.F.WireSummary.summary g.F.WireSummary.profile p _ _ c.first_message.new.sender _
    (g.W.Write.contents c.stopped-in-Err-pin.new.writer.inner) r w c.first_message.new.connection.writer.failed
    stops.Memory
    c.stopped-in-Err-pin.result c.first_message.ensures.none
    (stops-poor g.F.WireSummary.summary g.F.WireSummary.profile p _ c.first_message.new.sender _ r
    c.first_message.new.connection.writer.failed _
    c.in-Ok.ensures.met)
    c.stopped-in-Err-pin.ensures.leaves c.stopped-in-Err-pin.ensures.outcome)
    (c.sides_keep_bounds.ensures.responder found.base)

pub returns-in-Ok-pin-clause-opened : goal.returns-in-Ok-pin-clause-opened
returns-in-Ok-pin-clause-opened g c =
    let met = c.in-Ok.ensures.met in
    let join = c.feeds_join.ensures g.F.WireSummary.profile g.met.F.WireSummary.real in
    inr (came-first g.F.WireSummary.summary g.F.WireSummary.profile join c.opening_is_exact.ensures _ _ _ _ _ _ _ _
    c.in-Ok.ensures.first met (c.respond.ensures.on _ (g.W.Write.contents c.args.connection.now.writer.inner) met))

pub returns-in-Err-pin-clause-opened : goal.returns-in-Err-pin-clause-opened
returns-in-Err-pin-clause-opened g c =
    let met = c.in-Ok.ensures.met in
    let join = c.feeds_join.ensures g.F.WireSummary.profile g.met.F.WireSummary.real in
    inr (came-first g.F.WireSummary.summary g.F.WireSummary.profile join c.opening_is_exact.ensures _ _ _ _ _ _ _ _
    c.in-Ok.ensures.first met (on-nothing _))
