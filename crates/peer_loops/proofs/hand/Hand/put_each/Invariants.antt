use Rattle.std.proofs.Common.{◌≤◌, length, take}
use Rattle.peer_loops.specs.Hands.{PutsEach}
use Rattle.peer_loops.proofs.hand.Hand.put_each.Given as goal

-- those before this one were put in, in order
abbrev pub invariant-loop-item : goal.invariant-loop-item
invariant-loop-item g l = record {
  so_far : PutsEach l.fn.self (take l.item-index l.items) l.entered.items l.self;
  few : l.entered.len ≤ l.item-index;
  room : length l.items ≤ l.entered.cap;
}
