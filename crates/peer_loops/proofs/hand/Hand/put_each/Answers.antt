use Rattle.std.proofs.Common.{rules, ◌<◌, length, refl, arith}
use Rattle.std.proofs.lemmas.Option.{slice_get_read}
use Rattle.peer_loops.proofs.Handing.{nothing_at, puts_next}
use Rattle.peer_loops.proofs.hand.Hand.put_each.Goals as goal

pub returns-in-Err-clause-put : goal.returns-in-Err-clause-put
returns-in-Err-clause-put g c =
    let xs = c.args.items.now in
    let n = c.loop-item.item-index in
    let x = c.item-item.result in
    let within : n < length xs = search rules in
    let at = slice_get_read xs (length xs) n x refl within c.item-item.is in (
      n,
      x,
      c.loop-item.self,
      at,
      c.loop-item.invariant.so_far,
      c.in-Err.ensures.put,
      nothing_at c.loop-item.self x c.in-Err.fault c.put.new.self c.in-Err.ensures.put,
    )

pub loop-item-preserved : goal.loop-item-preserved
loop-item-preserved g c =
    let xs = c.args.items.now in
    let n = c.loop-item.item-index in
    let x = c.item-item.result in
    let within : n < length xs = search rules in
    let so_far = puts_next c.args.self.now xs n x c.loop-item.entered.items _ c.loop-item.self c.put.new.self
    c.in-Ok.added within c.item-item.is c.note.ensures.items c.loop-item.invariant.so_far c.in-Ok.ensures.put in
    record {
      so_far = so_far;
      few = omega (arith, c.note.ensures.few, c.loop-item.invariant.few);
      room = omega (arith, c.note.ensures.capacity, c.loop-item.invariant.room);
    }
