use Rattle.std.proofs.Common.{◌≡◌, ◌<◌, length, rules, arith, None, Ok}
use Rattle.std.proofs.lemmas.Result.{err_from_is_err_and}
use Rattle.definitions.specs.CompactReading.{gives, unit_at}
use Rattle.definitions.specs.Packing.{unpack}
use Rattle.wire_core.specs.Events.{event_value}
use Rattle.wire_core.specs.Refused.{Fails}
use Rattle.compact_core.proofs.Unpacks.{told, units_step, units_fail, units_done}
use Rattle.compact_core.proofs.unpacker.unpack_units.Goals as goal

pub returns-in_err-event-clause-units : goal.returns-in_err-event-clause-units
returns-in_err-event-clause-units g c =
    let P = g.F.WireSummary.profile in
    let e = c.in_err-event.field-0.0 in
    let p = err_from_is_err_and c.from_residual.result c.from_residual.ensures.1 in
    let read : Fails e (unit_at P c.units.come_to c.units.bytes.now) = search rules in
    rw (p.1, p.2) (units_fail P c.args.frames.now.items c.units.frames.items
    (unpack P c.args.come_to.now c.args.bytes.now.now) c.units.come_to c.units.bytes.now c.next_unit.new.bytes.now e
    read c.units.invariant.so_far)

pub units-preserved : goal.units-preserved
units-preserved g c =
    let P = g.F.WireSummary.profile in
    let e = event_value c.in-Some.event in
    let after = c.next_unit.new.bytes.now in
    let read : unit_at P c.units.come_to c.units.bytes.now ≡ gives e after = search rules in
    let less : length after < length c.units.bytes.now = search rules in
    let shorter = c.units.invariant.shorter in
    record {
      so_far = units_step P (told P c.args.frames.now.items (unpack P c.args.come_to.now c.args.bytes.now.now))
          c.units.frames.items c.push_event.new.frames.items c.units.come_to c.in_ok-next.next c.units.bytes.now after e
          less read c.in_ok-next.ensures.frame c.in_ok-next.ensures.next c.units.invariant.so_far;
      shorter = omega arith;
      all = λ le. absurd (omega arith);
    }

pub returns-clause-units : goal.returns-clause-units
returns-clause-units g c =
    let P = g.F.WireSummary.profile in
    let read : unit_at P c.units.come_to c.units.bytes.now ≡ Ok None = search rules in
    let same : c.next_unit.new.bytes.now ≡ c.units.bytes.now = search rules in
    units_done P c.args.frames.now.items c.units.frames.items (unpack P c.args.come_to.now c.args.bytes.now.now)
    c.units.come_to c.units.bytes.now c.next_unit.new.bytes.now read same c.units.invariant.so_far
