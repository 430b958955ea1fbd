use Rattle.std.proofs.Common.{◌≡◌, ◌≤◌, length, ap, arith}
use Rattle.definitions.specs.Replies.{Peer, opening}
use Rattle.definitions.specs.Wire.{max_parts}
use Rattle.definitions.proofs.Lemmas.{false≢true}
use Rattle.ends_core.proofs.session_end.first_message.Goals as goal

pub unreachable-requires : goal.unreachable-requires
unreachable-requires g c =
    let S = g.F.WireSummary.summary in
    let P : Peer = record { table = c.args.strategy.now; items = g.S.RangeStore.content c.args.store.now } in
    let exact = c.openings_are_exact.ensures S P (g.met.S.RangeStore.rises c.args.store.now) in
    let is : length c.in_ok-opening_parts.field-0.items ≡ length (opening S P) =
    ap length c.in_ok-opening_parts.ensures in
    let fits : length c.in_ok-opening_parts.field-0.items ≤ max_parts =
    omega (arith, exact.few, is, c.requires, c.cap.ensures.table.cap_upto) in
    false≢true (c.in-Err.ensures.ok.1 fits)
