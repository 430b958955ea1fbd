use Rattle.std.proofs.Common.{◌≡◌, ◌<◌, length, rules, arith, Some, Ok}
use Rattle.definitions.specs.Wire.{Stream}
use Rattle.definitions.specs.Reading.{event_at}
use Rattle.definitions.specs.Packing.{pack, with_text}
use Rattle.wire_core.specs.Events.{event_value}
use Rattle.compact_core.specs.Packing.{NoFrame}
use Rattle.compact_core.proofs.Packs.{frames_step, frames_done}
use Rattle.compact_core.proofs.packer.pack_frames.Goals as goal

pub frames-preserved : goal.frames-preserved
frames-preserved g c =
    let P = g.F.WireSummary.profile in
    let e = event_value c.in-Some.event in
    let after = c.next_frame.new.bytes.now in
    let read : event_at P Stream 0 c.frames.bytes.now ≡ Ok (Some (e, after)) = search rules in
    let less : length after < length c.frames.bytes.now = search rules in
    let shorter = c.frames.invariant.shorter in
    record {
      so_far = frames_step P (with_text c.args.out.now.items (pack P c.args.come_to.now c.args.bytes.now.now))
          c.frames.out.items c.push_event.new.out.items c.frames.come_to c.in_ok-next.next c.frames.bytes.now after e
          less read c.in_ok-next.ensures.text c.in_ok-next.ensures.next c.frames.invariant.so_far;
      shorter = omega arith;
      all = λ le. absurd (omega arith);
    }

pub returns-clause-text : goal.returns-clause-text
returns-clause-text g c =
    let P = g.F.WireSummary.profile in
    let none : NoFrame (event_at P Stream 0 c.frames.bytes.now) = search rules in
    let same : c.next_frame.new.bytes.now ≡ c.frames.bytes.now = search rules in
    (frames_done P c.args.out.now.items c.frames.out.items (pack P c.args.come_to.now c.args.bytes.now.now)
    c.frames.come_to c.frames.bytes.now c.next_frame.new.bytes.now none same c.frames.invariant.so_far).0

pub returns-clause-state : goal.returns-clause-state
returns-clause-state g c =
    let P = g.F.WireSummary.profile in
    let none : NoFrame (event_at P Stream 0 c.frames.bytes.now) = search rules in
    let same : c.next_frame.new.bytes.now ≡ c.frames.bytes.now = search rules in
    (frames_done P c.args.out.now.items c.frames.out.items (pack P c.args.come_to.now c.args.bytes.now.now)
    c.frames.come_to c.frames.bytes.now c.next_frame.new.bytes.now none same c.frames.invariant.so_far).1
