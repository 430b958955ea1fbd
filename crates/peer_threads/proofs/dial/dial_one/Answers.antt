use Rattle.std.specs.Arc.{arc_value}
use Rattle.definitions.specs.Engines.{initiating}
use Rattle.definitions.specs.Histories.{content, items_of}
use Rattle.peer_threads.specs.Outcomes.{IsTimely, peer_at, seen}
use Rattle.peer_threads.specs.declared.stop.Stop.TheVariants.{Memory}
use Rattle.peer_threads.proofs.Dialing.{found-fits, speaks-pinned, stops-silent, speaks-unsaid}
use Rattle.peer_threads.proofs.Endings.{speaks}
use Rattle.peer_threads.proofs.dial.dial_one.Goals as goal

pub returns-in-Ok-clause-bytes : goal.returns-in-Ok-clause-bytes
returns-in-Ok-clause-bytes g c =
    speaks-pinned g.F.WireSummary.summary g.F.WireSummary.profile (arc_value c.args.shared.now.accepted.now)
    c.pin.new.seat.view c.in-Ok.pin _ _ _ c.dial_pinned.result c.in-Ok.ensures.pin c.dial_pinned.ensures.bytes

pub returns-in-Err-clause-bytes : goal.returns-in-Err-clause-bytes
returns-in-Err-clause-bytes g c =
    let found = c.pin.new.seat.view in
    let s = initiating g.F.WireSummary.summary (peer_at (arc_value c.args.shared.now.accepted.now) found) in
    let unread = g.R.Read.remaining c.args.connection.now.reader.inner in
    let held = g.W.Write.contents c.args.connection.now.writer.inner in
    let r = seen c.args.connection.now.reader.failed c.args.connection.now.reader.ended in
    let w = seen c.stopped.new.writer.failed c.stopped.new.writer.ended in
    let fits =
    found-fits c.args.seat.now.view found (arc_value c.args.shared.now.accepted.now).table.cap c.pin.ensures.view
    c.requires.fits in
    let set = c.set_of_a_list.ensures.set (items_of found.base) in
    speaks g.F.WireSummary.summary g.F.WireSummary.profile _ s _ _ _ _ r w c.stopped.result
    (speaks-unsaid g.F.WireSummary.summary g.F.WireSummary.profile s _ _ c.new.result unread held
    (g.W.Write.contents c.stopped.new.writer.inner) r w c.args.connection.now.writer.failed Memory c.stopped.result
    c.new.ensures
    (stops-silent g.F.WireSummary.summary g.F.WireSummary.profile (IsTimely c.new.result.sent) s c.new.result unread
    held r c.args.connection.now.writer.failed c.new.ensures)
    c.stopped.ensures.leaves c.stopped.ensures.outcome)
    (λ bytes are known. c.sides_keep_bounds.ensures.initiator (content found.base) bytes are set fits)
