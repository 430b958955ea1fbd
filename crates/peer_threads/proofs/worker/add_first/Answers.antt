use Rattle.std.proofs.Common.{rules, ◌≤◌, inl, inr, refl}
use Rattle.peer_threads.specs.Workers.{PutInAll, may_stand}
use Rattle.peer_threads.proofs.Puttings.{puts-one, puts-all, drops-rest}
use Rattle.peer_threads.proofs.worker.add_first.Goals as goal

pub loop-place-preserved : goal.loop-place-preserved
loop-place-preserved g c =
    let next = c.add_own.new.seat.view in
    let so_far = puts-one (PutInAll (may_stand c.args.scope.now.own c.args.scope.now.floor)) c.args.items.now
    c.args.first c.loop-place.place c.item.result c.args.seat.now.view c.loop-place.seat.view next
    c.loop-place.dropped c.in-Ok.count c.requires.within c.loop-place-test.true c.item.ensures
    c.loop-place.invariant.so_far
    (λ left w n all. inl (next, c.in-Ok.count, n, c.in-Ok.ensures.put, all, refl)) in
    search (rules, so_far)

pub returns-in-Err-clause-put : goal.returns-in-Err-clause-put
returns-in-Err-clause-put g c =
    let dropped = drops-rest (PutInAll (may_stand c.args.scope.now.own c.args.scope.now.floor)) c.args.items.now
    c.args.first c.loop-place.place c.item.result c.args.seat.now.view c.loop-place.seat.view c.add_own.new.seat.view
    c.loop-place.dropped c.requires.within c.loop-place-test.true c.item.ensures c.loop-place.invariant.so_far
    (λ left n count. inr (c.in-Err.ensures.memory, count)) in
    search (rules, dropped)

pub returns-clause-put : goal.returns-clause-put
returns-clause-put g c =
    let past : c.args.first ≤ c.loop-place.place = search rules in
    puts-all (PutInAll (may_stand c.args.scope.now.own c.args.scope.now.floor)) c.args.items.now c.args.first
    c.loop-place.place _ _ _ c.requires.within past
    c.loop-place.invariant.so_far (refl, refl)
