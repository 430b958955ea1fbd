use Rattle.std.proofs.Common.{◌≡◌, ◌≤◌, IsSome}
use Rattle.library_tests.proofs.locks.try_all.Given as goal

abbrev pub invariant-loop : goal.invariant-loop
invariant-loop g l = (l.seat.table_id ≡ l.lock) × IsSome l.seat.view.writer × (l.added ≤ 100)
