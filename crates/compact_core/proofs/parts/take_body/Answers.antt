use Rattle.std.proofs.Common.{rules, ◌≡◌}
use Rattle.std.proofs.lemmas.Result.{err_from_is_err_and}
use Rattle.definitions.specs.CompactReading.{gives}
use Rattle.compact_core.specs.Readings.{Stops, range_from}
use Rattle.compact_core.proofs.Bodies.{body_given, body_stops}
use Rattle.compact_core.proofs.parts.take_body.Goals as goal

pub returns-in_err-range-clause-read : goal.returns-in_err-range-clause-read
returns-in_err-range-clause-read g c =
    let p = err_from_is_err_and c.from_residual.result c.from_residual.ensures.1 in
    let stop : Stops c.in_err-range.field-0.0 (range_from c.args.lower c.args.head c.args.bytes.now.now) =
    search rules in
    rw (p.1, p.2)
    (body_stops g.F.WireSummary.profile c.args.lower c.args.head c.args.bytes.now.now c.in_err-range.field-0.0 stop)

pub returns-clause-read : goal.returns-clause-read
returns-clause-read g c =
    let read : range_from c.args.lower c.args.head c.args.bytes.now.now
    ≡ gives c.in_ok-range.range c.take_range.new.bytes.now = search rules in
    rw (body_given g.F.WireSummary.profile c.args.lower c.args.head c.args.bytes.now.now c.take_range.new.bytes.now
    c.in_ok-range.range read) c.take_fields.ensures.read
