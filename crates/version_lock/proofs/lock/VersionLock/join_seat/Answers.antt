use Rattle.std.proofs.Common.{rules}
use Rattle.version_lock.proofs.Splitting.{joins}
use Rattle.version_lock.proofs.lock.VersionLock.join_seat.Goals as goal

pub join_seat-requires : goal.join_seat-requires
join_seat-requires g c =
    let seat = c.seat.invariant.1 in
    let other = c.other.invariant.1 in
    let all = joins _ _ _ _ seat.live seat.idle seat.some other.live other.idle in
    (search rules, search rules, search rules, search rules, all)
