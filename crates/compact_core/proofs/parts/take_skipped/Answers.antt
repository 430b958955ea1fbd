use Rattle.std.proofs.Common.{rules, ◌≡◌, ◌≤◌, arith}
use Rattle.definitions.specs.CompactReading.{gives, byte_from}
use Rattle.compact_core.proofs.Bodies.{skipped_is}
use Rattle.compact_core.proofs.parts.take_skipped.Goals as goal

pub returns-clause-read : goal.returns-clause-read
returns-clause-read g c =
    let read : byte_from c.args.bytes.now.now ≡ gives c.in_ok-head.head c.take_byte.new.bytes.now = search rules in
    let high : 64 ≤ c.in_ok-head.head = omega arith in
    rw (skipped_is g.F.WireSummary.profile c.args.lower c.args.bytes.now.now c.take_byte.new.bytes.now c.in_ok-head.head
    read high) c.take_body.ensures.read
