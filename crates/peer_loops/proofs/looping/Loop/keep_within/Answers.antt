-- As many turns as there are peers take all of them out, and then nothing is held.
use Rattle.std.proofs.Common.{rules, ◌≡◌, ◌+◌, ◌≤◌, arith}
use Rattle.slab.specs.Slab.{slab_len}
use Rattle.hub_core.specs.Hubs.{held_by}
use Rattle.peer_loops.proofs.Fewer.{none_held, one_less}
use Rattle.peer_loops.proofs.looping.Loop.keep_within.Goals as goal

pub loop-peer-preserved : goal.loop-peer-preserved
loop-peer-preserved g c =
    let most = c.in-Some.ensures.over.1 in
    let less : slab_len c.let_go.new.self.hub.peers + 1 ≡ slab_len c.loop-peer.self.hub.peers =
    one_less c.loop-peer.self.hub.peers c.let_go.new.self.hub.peers c.in-Some.key most.value most.there
    c.let_go.ensures.gone c.let_go.ensures.others in
    omega (arith, less, c.loop-peer.invariant)

pub returns : goal.returns
returns g c =
    let over : c.len-peer-end.result ≤ c.loop-peer._peer = search rules in
    let none : slab_len c.loop-peer.self.hub.peers ≡ 0 =
    omega (arith, c.loop-peer.invariant, c.len-peer-end.ensures, over) in
    let held : held_by c.loop-peer.self.hub.peers ≡ 0 = none_held c.loop-peer.self.hub.peers none in
    omega (arith, held)
