use Rattle.std.proofs.Common.{◌≡◌, ◌≤◌, take}
use Rattle.std.specs.Arc.{arc_value}
use Rattle.peer_loops.specs.Chains.{Took}
use Rattle.peer_loops.proofs.desk.Desk.add_each.Given as goal

-- the items before this one were taken
abbrev pub invariant-loop-item : goal.invariant-loop-item
invariant-loop-item g l = record {
  part : l.self.part ≡ l.fn.self.part;
  took : Took (arc_value l.fn.self.part).own (take l.item-index l.items) l.fn.self.seat.view l.self.seat.view
      l.left_out;
  few : l.left_out ≤ l.item-index;
}
