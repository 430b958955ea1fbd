use Rattle.std.proofs.Common.{rules}
use Rattle.wire_core.proofs.Exact.{found, only, fault}
use Rattle.wire_core.proofs.decoding.decode_message.Goals as goal

pub returns-clause-found : goal.returns-clause-found
returns-clause-found g c =
    found g.F.WireSummary.profile (c.message_is_exact.ensures g.F.WireSummary.profile g.met.F.WireSummary.real)
    c.args.bytes.now
    ((c.reads_are_bytes.ensures c.args.bytes.now).1 (search rules)) c.message_of.result c.message_of.ensures

pub returns-clause-only : goal.returns-clause-only
returns-clause-only g c =
    only g.F.WireSummary.profile (c.message_is_exact.ensures g.F.WireSummary.profile g.met.F.WireSummary.real)
    c.args.bytes.now c.message_of.result c.message_of.ensures

pub returns-clause-fault : goal.returns-clause-fault
returns-clause-fault g c =
    fault g.F.WireSummary.profile (c.message_is_exact.ensures g.F.WireSummary.profile g.met.F.WireSummary.real)
    c.args.bytes.now
    ((c.reads_are_bytes.ensures c.args.bytes.now).1 (search rules)) c.message_of.result c.message_of.ensures
