use Rattle.std.proofs.Common.{◌≡◌, ◌<◌, Some, rules, arith}
use Rattle.slab.specs.Slab.{get}
use Rattle.session_table.specs.Sessions.{LiveSession}
use Rattle.session_table.proofs.Kept.{IsTable-noted}
use Rattle.session_table.proofs.table.SessionTable.note_sent.Goals as goal

pub invariant_of-self-2 : goal.invariant_of-self-2
invariant_of-self-2 c =
    let s : LiveSession =
    record { serial = c.session.inside.serial; bound = c.session.inside.bound; sent = c.session.inside.sent } in
    let found : get c.self.inside.sessions c.id.inside.key ≡ Some s = search rules in
    let below : s.sent < s.bound = omega arith in
    let kept = IsTable-noted c.self.inside.capacity c.self.inside.next c.self.inside.totals c.self.inside.sessions
    c.id.inside.key s c.self.invariant.1 found below in
    (omega arith, rw c.message-self-inside.ensures kept)
