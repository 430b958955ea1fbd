use Rattle.std.proofs.Common.{rules, ◌≡◌, true, false, Some}
use Rattle.slab.specs.Slab.{get}
use Rattle.hub_core.proofs.Chosen.{most-of, none-of}
use Rattle.hub_core.proofs.hub.Hub.most_silent_of.Goals as goal

pub returns-then-not-is_from-clause-none : goal.returns-then-not-is_from-clause-none
returns-then-not-is_from-clause-none g c =
    let there : Some c.in_ok-peer.peer.now ≡ get c.args.self.now.peers c.in_ok-key.key = search rules in
    let other : c.is_from.result ≡ false = search rules in
    none-of c.args.origin c.args.self.now.peers c.in_ok-key.key c.in_ok-peer.peer.now c.is_from.result
    c.in_ok-key.ensures.most there c.is_from.ensures other

pub returns-clause-most : goal.returns-clause-most
returns-clause-most g c =
    let there : Some c.in_ok-peer.peer.now ≡ get c.args.self.now.peers c.in_ok-key.key = search rules in
    let own : c.is_from.result ≡ true = search rules in
    most-of c.args.origin c.args.self.now.peers c.in_ok-key.key c.in_ok-peer.peer.now c.is_from.result
    c.in_ok-key.ensures.most there c.is_from.ensures own
