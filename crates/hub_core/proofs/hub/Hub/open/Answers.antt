use Rattle.std.proofs.Common.{rules, ◌≡◌, ap, arith}
use Rattle.std.specs.Arc.{arc_value}
use Rattle.ends_core.specs.Sides.{peer_of}
use Rattle.range_tree.specs.Trees.{tree_items}
use Rattle.hub_core.specs.Peers.{Opens, version_after}
use Rattle.hub_core.specs.Hubs.{HubState}
use Rattle.hub_core.proofs.Held.{room-changed, held-enough, held-changed}
use Rattle.hub_core.proofs.Changed.{of-both-ok}
use Rattle.hub_core.proofs.hub.Hub.open.Goals as goal

pub overflow_sub-self : goal.overflow_sub-self
overflow_sub-self g c =
    held-enough c.self.inside.held c.from.result c.self.inside.peers c.args.key c.in_ok-peer.peer.now c.self.invariant
    (search rules) (search rules)

pub overflow_add-self : goal.overflow_add-self
overflow_add-self g c =
    let room = room-changed c.self.inside.held c.from.result c.from-2.result c.capacity.result c.self.inside.peers
    c.open-did.new.self c.self.invariant (search rules) c.capacity.ensures.slots (search rules) in
    omega (arith, room)

pub invariant_of-self-2 : goal.invariant_of-self-2
invariant_of-self-2 g c =
    held-changed c.self.inside.held c.from.result c.from-2.result c.self.inside.peers c.args.key
    c.in_ok-peer.peer.now c.open-did.new.self c.self.invariant (search rules) (search rules) (search rules)

pub returns-clause-opens : goal.returns-clause-opens
returns-clause-opens g c =
    of-both-ok (λ p q. Opens (peer_of (arc_value c.args.accepted.now) (tree_items c.args.store)) p.phase q.phase)
    c.open-did.result c.args.self.now.peers c.self.inside.peers c.args.key c.in_ok-peer.peer.now c.open-did.new.self
    (ap (λ (h : HubState g.row.I.Denot g.row.O.Denot). h.peers) c.self.view_is) (search rules) c.open-did.ensures.opens

pub returns-clause-version : goal.returns-clause-version
returns-clause-version g c =
    of-both-ok (λ p q. q.version ≡ version_after p.phase p.version c.args.version)
    c.open-did.result c.args.self.now.peers c.self.inside.peers c.args.key c.in_ok-peer.peer.now c.open-did.new.self
    (ap (λ (h : HubState g.row.I.Denot g.row.O.Denot). h.peers) c.self.view_is) (search rules)
    c.open-did.ensures.version
