use Rattle.std.proofs.Common.{rules, ◌≡◌, subst}
use Rattle.version_log.specs.Logs.{IsLog, with_writer_given}
use Rattle.version_lock.specs.Views.{found}
use Rattle.version_lock.specs.Calls.{view}
use Rattle.version_lock.proofs.Keeps.{enrolls}
use Rattle.version_lock.proofs.lock.VersionLock.give_back_numbered.Goals as goal

pub store-requires : goal.store-requires
store-requires g c =
    let good : IsLog c.args.log = search rules in
    let is : c.args.log ≡ with_writer_given (found (view c.put.new.seat)) = cc in
    (search rules, search rules, enrolls _ _ _ (search rules) (search rules) (search rules) (subst IsLog is good))
