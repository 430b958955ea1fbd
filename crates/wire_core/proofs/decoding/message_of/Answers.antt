use Rattle.std.proofs.Common.{rules}
use Rattle.wire_core.proofs.Exact.{message_read}
use Rattle.wire_core.proofs.decoding.message_of.Goals as goal

pub of_parts-requires : goal.of_parts-requires
of_parts-requires g c =
    message_read g.F.WireSummary.profile (c.message_is_exact.ensures g.F.WireSummary.profile g.met.F.WireSummary.real)
    c.args.bytes.now ((c.reads_are_bytes.ensures c.args.bytes.now).1 (search rules)) _ c.in_ok-parts_in.ensures.exact
