use Rattle.std.proofs.Common.{rules, ◌≡◌, Some}
use Rattle.slab.specs.Slab.{get}
use Rattle.hub_core.specs.Peers.{kept}
use Rattle.hub_core.proofs.Held.{held-enough, held-less}
use Rattle.hub_core.proofs.hub.Hub.take.Goals as goal

pub overflow_sub-self : goal.overflow_sub-self
overflow_sub-self g c =
    let own : c.from.result ≡ kept c.in_ok-peer.peer = search rules in
    let there : get c.self.inside.peers c.args.key ≡ Some c.in_ok-peer.peer = search rules in
    held-enough c.self.inside.held c.from.result c.self.inside.peers c.args.key c.in_ok-peer.peer
    c.self.invariant own there

pub invariant_of-self-2 : goal.invariant_of-self-2
invariant_of-self-2 g c =
    let own : c.from.result ≡ kept c.in_ok-peer.peer = search rules in
    let there : get c.self.inside.peers c.args.key ≡ Some c.in_ok-peer.peer = search rules in
    held-less c.self.inside.held c.from.result c.self.inside.peers c.try_remove.new.self c.args.key c.in_ok-peer.peer
    c.self.invariant own there c.try_remove.ensures.updates
