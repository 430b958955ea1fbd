use Rattle.std.proofs.Common.{◌≡◌, IsSome}
use Rattle.library_tests.proofs.locks.insert_all.Given as goal

abbrev pub invariant-loop-number : goal.invariant-loop-number
invariant-loop-number g l = (l.seat.table_id ≡ l.lock) × IsSome l.seat.view.writer
