use Rattle.std.proofs.Common.{rules}
use Rattle.version_lock.specs.Calls.{view, ClosedWith}
use Rattle.version_lock.proofs.Turns.{closed}
use Rattle.version_lock.proofs.lock.VersionLock.close_with.Goals as goal

pub returns-clause-last : goal.returns-clause-last
returns-clause-last g c =
    let took = c.lock.ensures.took in
    let all : ClosedWith (view c.seat.inside.place) c.take.result =
    closed (view c.seat.inside.place) took.0 c.lock.new.seat.me c.take.result took.2 c.take.ensures.log in
    search (rules, all)
