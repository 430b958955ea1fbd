use Rattle.std.proofs.Common.{◌≡◌, IsSome}
use Rattle.peer_threads.proofs.worker.serve_all.Given as goal

abbrev pub invariant-loop : goal.invariant-loop
invariant-loop g l =
    (goal.iterator-loop g).can_next l.iterator'
    × (goal.iterator-loop g).is_finite l.iterator'
    × (l.seat.table_id ≡ l.fn.seat.table_id)
    × (l.seat.view.cap ≡ l.fn.seat.view.cap)
    × IsSome l.seat.view.writer
