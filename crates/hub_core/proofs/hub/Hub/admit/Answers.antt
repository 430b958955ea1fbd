use Rattle.std.proofs.Common.{rules, ◌≡◌, arith}
use Rattle.hub_core.specs.Peers.{kept}
use Rattle.hub_core.proofs.Held.{room-for, held-added}
use Rattle.hub_core.proofs.hub.Hub.admit.Goals as goal

pub overflow_add-self : goal.overflow_add-self
overflow_add-self g c =
    let room = room-for c.self.inside.held c.from.result c.capacity.result c.self.inside.peers c.args.peer
    c.self.invariant (search rules) c.capacity.ensures.slots (search rules) in
    omega (arith, room)

pub invariant_of-self : goal.invariant_of-self
invariant_of-self g c =
    let own : c.from.result ≡ kept c.args.peer = search rules in
    held-added c.self.inside.held c.from.result c.self.inside.peers c.insert.new.self c.in-Ok.key c.args.peer
    c.self.invariant own c.in-Ok.ensures.was_vacant c.in-Ok.ensures.updates
