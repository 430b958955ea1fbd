use Rattle.std.proofs.Common.{rules, ◌≡◌}
use Rattle.std.specs.Arc.{arc_value}
use Rattle.peer_loops.proofs.Spoken.{speaks-meant}
use Rattle.peer_loops.proofs.desk.Desk.dial.Goals as goal

pub returns-clause-bytes : goal.returns-clause-bytes
returns-clause-bytes g c =
    let same : arc_value c.deref-2.result.now.accepted ≡ arc_value (arc_value c.args.self.now.part).accepted =
    search rules in
    speaks-meant (arc_value (arc_value c.args.self.now.part).accepted) (arc_value c.deref-2.result.now.accepted) _ _
    c.in_ok-pin.pin _ _ _ c.dial_pinned.result same c.in_ok-pin.ensures.items c.in_ok-pin.ensures.version
    c.dial_pinned.ensures.bytes
