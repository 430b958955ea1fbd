use Rattle.std.proofs.Common.{◌≡◌, rules, ap, arith, OnOk}
use Rattle.std.specs.Io.Take.{take_inner, take_remaining}
use Rattle.hub_core.specs.Peers.{EndsPhase, GoesSo, LeavesOff}
use Rattle.hub_core.specs.Hubs.{HubState}
use Rattle.hub_core.proofs.Held.{room-changed, held-enough, held-changed}
use Rattle.hub_core.proofs.Changed.{of-both, of-one}
use Rattle.hub_core.proofs.hub.Hub.pump.Goals as goal

pub overflow_sub-self : goal.overflow_sub-self
overflow_sub-self g c =
    held-enough c.self.inside.held c.from.result c.self.inside.peers c.args.key c.in_ok-peer.peer.now c.self.invariant
    (search rules) (search rules)

pub overflow_add-self : goal.overflow_add-self
overflow_add-self g c =
    let room = room-changed c.self.inside.held c.from.result c.from-2.result c.capacity.result c.self.inside.peers
    c.pump-did.new.self c.self.invariant (search rules) c.capacity.ensures.slots (search rules) in
    omega (arith, room)

pub invariant_of-self-2 : goal.invariant_of-self-2
invariant_of-self-2 g c =
    held-changed c.self.inside.held c.from.result c.from-2.result c.self.inside.peers c.args.key
    c.in_ok-peer.peer.now c.pump-did.new.self c.self.invariant (search rules) (search rules) (search rules)

pub returns-clause-stays : goal.returns-clause-stays
returns-clause-stays g c =
    let R = g.I.Read.remaining in
    let W = g.O.Write.contents in
    of-both (λ p q. GoesSo p.phase q.phase (take_remaining R p.reader.way) (take_remaining R q.reader.way)
    (W p.writer.way) (W q.writer.way) c.pump-did.result) c.args.self.now.peers c.self.inside.peers c.args.key
    c.in_ok-peer.peer.now c.pump-did.new.self
    (ap (λ (h : HubState g.row.I.Denot g.row.O.Denot). h.peers) c.self.view_is) (search rules) c.pump-did.ensures.moved

pub returns-clause-leaves : goal.returns-clause-leaves
returns-clause-leaves g c =
    of-one (λ q. LeavesOff q.phase q.reader.last q.writer.last c.pump-did.result) c.self.inside.peers c.args.key
    c.in_ok-peer.peer.now c.pump-did.new.self (search rules) c.pump-did.ensures.leaves

pub returns-clause-over : goal.returns-clause-over
returns-clause-over g c =
    of-both (λ p q. OnOk c.pump-did.result (EndsPhase p.phase q.phase q.reader.last)) c.args.self.now.peers
    c.self.inside.peers c.args.key c.in_ok-peer.peer.now c.pump-did.new.self
    (ap (λ (h : HubState g.row.I.Denot g.row.O.Denot). h.peers) c.self.view_is) (search rules) c.pump-did.ensures.over

pub returns-clause-waits : goal.returns-clause-waits
returns-clause-waits g c =
    of-one (λ q. q.waits ≡ g.I.Keeping.keeps (take_inner q.reader.way)) c.self.inside.peers c.args.key
    c.in_ok-peer.peer.now c.pump-did.new.self (search rules) c.pump-did.ensures.waits
