use Rattle.std.proofs.Common.{rules, ◌≡◌, subst}
use Rattle.version_log.specs.Logs.{IsLog}
use Rattle.version_lock.specs.Beginnings.{Entry}
use Rattle.version_lock.specs.Views.{found, with_entry}
use Rattle.version_lock.specs.Calls.{view}
use Rattle.version_lock.proofs.Keeps.{adds}
use Rattle.version_lock.proofs.lock.VersionLock.give_back_with.Goals as goal

pub store-requires : goal.store-requires
store-requires g c =
    let good : IsLog c.args.log = search rules in
    let is : c.args.log ≡ with_entry (found (view c.put.new.seat)) (c.args.writer, c.args.item) = cc in
    let entry : Entry = (c.args.writer, c.args.item) in (
      search rules,
      search rules,
      adds _ _ _ entry (search rules) (search rules) (search rules) (search rules) (subst IsLog is good),
    )
