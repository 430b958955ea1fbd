use Rattle.std.proofs.Common.{◌≡◌, Some, Ok, rules}
use Rattle.definitions.specs.Wire.{Stream}
use Rattle.definitions.specs.Reading.{event_at}
use Rattle.wire_core.specs.Events.{event_value}
use Rattle.compact_core.proofs.Frames.{event_shorter}
use Rattle.compact_core.proofs.packer.next_frame.Goals as goal

pub returns-in-Ok-Some-clause-shorter : goal.returns-in-Ok-Some-clause-shorter
returns-in-Ok-Some-clause-shorter g c =
    let P = g.F.WireSummary.profile in
    let e = event_value c.in-Ok-Some.event in
    let read : event_at P Stream 0 c.args.bytes.now.now ≡ Ok (Some (e, c.take_event.new.bytes.now)) = search rules in
    event_shorter P Stream 0 c.args.bytes.now.now c.take_event.new.bytes.now e read
