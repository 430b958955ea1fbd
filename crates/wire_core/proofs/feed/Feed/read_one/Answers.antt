use Rattle.std.proofs.Common.{rules, ◌≡◌}
use Rattle.definitions.specs.Items.{IsBytes}
use Rattle.definitions.specs.Streams.{feed, stays}
use Rattle.wire_core.proofs.Feeding.{slice_back}
use Rattle.wire_core.proofs.Nexts.{step_joined}
use Rattle.wire_core.proofs.feed.Feed.read_one.Goals as goal

pub returns-in_ok-push_if-in-Ok-clause-step : goal.returns-in_ok-push_if-in-Ok-clause-step
returns-in_ok-push_if-in-Ok-clause-step g c =
    let P = g.F.WireSummary.profile in
    let next = c.in-Ok.field-0 in
    let piece = c.args.piece.now.now in
    let fits : IsBytes c.args.self.now.kept = search (rules, c.are_bytes.ensures) in
    let held : feed P next.feed.standing next.feed.kept ≡ stays next.feed.standing next.feed.kept = search rules in
    step_joined P (c.feeds_join.ensures P g.met.F.WireSummary.real) c.args.self.now next.feed piece _ next.taken
    c.args.out.now.items c.push_if.new.out.items next.event fits c.are_bytes-2.ensures held c.in-Ok.ensures.next
    (slice_back next.taken piece) c.in_ok-push_if-in-Ok.ensures.ok
