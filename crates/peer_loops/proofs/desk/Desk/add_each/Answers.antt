use Rattle.std.proofs.Common.{rules, ◌≡◌, ◌≤◌, ◌<◌, length, arith}
use Rattle.std.specs.Prelude.{Some}
use Rattle.std.specs.Arc.{arc_value}
use Rattle.peer_loops.specs.Chains.{left_out_by}
use Rattle.peer_loops.specs.Hands.{Adds}
use Rattle.peer_loops.proofs.Chaining.{few_more, took_next}
use Rattle.peer_loops.proofs.desk.Desk.add_each.Goals as goal

pub loop-item-preserved : goal.loop-item-preserved
loop-item-preserved g c =
    let own = (arc_value c.args.self.now.part).own in
    let count = c.in_ok-left_out.field-0 in
    let left : left_out_by c.add.result ≡ Some count = search rules in
    let adds : Adds own c.item-item.result c.loop-item.self.seat.view c.add.new.self.seat.view c.add.result =
    search rules in
    let within : c.loop-item.item-index < length c.args.items.now = search rules in
    let few : count ≤ 1 = few_more c.add.result count left in
    let before : c.loop-item.left_out ≤ c.loop-item.item-index = search rules in
    record {
      part = search rules;
      took = took_next own c.args.items.now c.loop-item.item-index c.item-item.result c.args.self.now.seat.view
          c.loop-item.self.seat.view c.add.new.self.seat.view c.loop-item.left_out count c.add.result within
          c.item-item.is c.loop-item.invariant.took adds left;
      few = omega (arith, few, before);
    }
