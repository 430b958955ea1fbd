use Rattle.std.proofs.Common.{◌≡◌, ◌≤◌, IsSome, drop, take}
use Rattle.peer_threads.specs.Workers.{PutInAll, may_stand}
use Rattle.peer_threads.proofs.Puttings.{Puts}
use Rattle.peer_threads.proofs.worker.add_first.Given as goal

abbrev pub invariant-loop-place : goal.invariant-loop-place
invariant-loop-place g l = record {
  own : l.seat.table_id ≡ l.fn.seat.table_id;
  writer : l.seat.view.writer ≡ l.fn.seat.view.writer;
  cap : l.seat.view.cap ≡ l.fn.seat.view.cap;
  enrolled : IsSome l.seat.view.writer;
  few : l.dropped ≤ l.place;
  so_far : Puts (PutInAll (may_stand l.scope.own l.scope.floor)) (take l.first l.items)
      (drop l.place (take l.first l.items)) l.fn.seat.view l.seat.view l.dropped;
}
