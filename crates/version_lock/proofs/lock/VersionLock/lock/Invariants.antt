use Rattle.std.proofs.Common.{◌≡◌, ℕ, ◌≤◌, []}
use Rattle.version_lock.specs.Views.{waited}
use Rattle.version_lock.specs.Calls.{view, IsSame}
use Rattle.version_lock.proofs.lock.VersionLock.lock.Given as goal

-- the seat only waited
abbrev pub invariant-loop : goal.invariant-loop
invariant-loop g l =
    IsSame l.initial.seat l.seat
    × ((busy : ℕ) × ((view l.initial.seat).busy ≤ busy) × (l.seat.me ≡ (waited busy (view l.initial.seat), [])))
