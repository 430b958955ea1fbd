use Rattle.std.proofs.Common.{rules, ◌≡◌, List, [], ◌∷◌, Option, Some, sym, subst}
use Rattle.atomic_table.specs.Table.{opening}
use Rattle.version_log.specs.Logs.{LogState, IsLog}
use Rattle.version_lock.specs.Views.{first_view}
use Rattle.version_lock.specs.Lawful.{Lawful}
use Rattle.version_lock.proofs.Opening.{opens}
use Rattle.version_lock.proofs.lock.VersionLock.new.Goals as goal

pub new-requires : goal.new-requires
new-requires g c =
    let l : LogState = c.of-opened.result.value in
    let good : IsLog l = search rules in
    let slots : c.push.new.self.items ≡ Some l ∷ [] = search rules in
    subst (λ (xs : List (Option LogState)). Lawful l (opening (0 ∷ []) xs (first_view l))) (sym slots) (opens l good)
