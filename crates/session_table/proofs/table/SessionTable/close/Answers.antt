use Rattle.std.proofs.Common.{arith}
use Rattle.session_table.proofs.Kept.{IsTable-closed}
use Rattle.session_table.proofs.table.SessionTable.close.Goals as goal

pub invariant_of-self : goal.invariant_of-self
invariant_of-self c =
    let kept = IsTable-closed c.self.inside.capacity c.self.inside.next c.self.inside.totals c.self.inside.sessions
    c.remove.new.self _ c.args.kind c.self.invariant.1 c.remove.ensures.updates c.remove.ensures.len in
    (omega arith, rw c.closed-self-inside.ensures kept)
