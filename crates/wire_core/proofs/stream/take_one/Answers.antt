use Rattle.std.proofs.Common.{rules, ◌≡◌, Ok, Err, Some, sym, subst}
use Rattle.definitions.specs.Wire.{Stream}
use Rattle.definitions.specs.Reading.{event_at}
use Rattle.definitions.specs.Streams.{feed_frames}
use Rattle.wire_core.specs.Events.{event_value}
use Rattle.wire_core.specs.Standings.{IsRead}
use Rattle.wire_core.proofs.Outcomes.{refused_one, some_one}
use Rattle.wire_core.proofs.stream.take_one.Goals as goal

pub returns-in_err-event-clause-read : goal.returns-in_err-event-clause-read
returns-in_err-event-clause-read g c =
    let P = g.F.WireSummary.profile in
    let exact = c.next_is_exact.ensures P g.met.F.WireSummary.real in
    let bytes = c.args.bytes.now.now in
    let left = c.take_event.new.bytes.now in
    let same : c.from_residual.result ≡ Err c.in_err-event.field-0.0 = search rules in
    λ fuel le. subst (λ r. IsRead (feed_frames P fuel c.args.parts bytes) r left) (sym same)
    (refused_one P exact c.args.parts bytes left c.are_bytes.ensures c.requires c.in_err-event.field-0.0
    c.in_err-event.ensures.read fuel le)

pub returns-in-Some-clause-read : goal.returns-in-Some-clause-read
returns-in-Some-clause-read g c =
    let P = g.F.WireSummary.profile in
    let exact = c.next_is_exact.ensures P g.met.F.WireSummary.real in
    let bytes = c.args.bytes.now.now in
    let left = c.take_event.new.bytes.now in
    let at : event_at P Stream c.args.parts bytes ≡ Ok (Some (event_value c.in-Some.event, left)) =
    search (rules, c.in_ok-event.ensures.read, c.in-Some.is) in
    some_one P exact c.args.parts bytes left c.are_bytes.ensures c.requires c.in-Some.event c.standing_after.result at
    c.standing_after.ensures.after
