use Rattle.peer_loops.specs.Hands.{PutsEach}
use Rattle.server.proofs.Put.{few, all_put, some_put}
use Rattle.server.proofs.putting.put_all.Goals as goal

pub returns-in_default-keep-clause-some : goal.returns-in_default-keep-clause-some
returns-in_default-keep-clause-some g c =
    let e = c.in_ok-entered.entered in
    some_put c.args.hand.now c.args.items.now.items e.items.items c.put_each.new.self
    (all_put c.args.hand.now c.deref.result.now c.args.items.now.items e.items.items e.fault c.put_each.new.self
    c.deref.ensures.value c.in_default.is c.in_ok-entered.ensures.put)

pub counts_of-added-requires : goal.counts_of-added-requires
counts_of-added-requires g c =
    let e = c.in_ok-entered.entered in
    few c.args.hand.now c.args.items.now.items e.items.items c.put_each.new.self
    (all_put c.args.hand.now c.deref.result.now c.args.items.now.items e.items.items e.fault c.put_each.new.self
    c.deref.ensures.value c.in_default.is c.in_ok-entered.ensures.put)

pub returns-clause-all : goal.returns-clause-all
returns-clause-all g c =
    let e = c.in_ok-entered.entered in
    let each : PutsEach c.args.hand.now c.args.items.now.items e.items.items c.put_each.new.self =
    all_put c.args.hand.now c.deref.result.now c.args.items.now.items e.items.items e.fault c.put_each.new.self
    c.deref.ensures.value c.in_default.is c.in_ok-entered.ensures.put in
    (e.items.items, each, c.counts_of-added.ensures.added, c.counts_of-added.ensures.all, c.in-Some-keep.ensures)
