use Rattle.std.proofs.Common.{rules, ◌≡◌, ℕ, Some, sym, subst}
use Rattle.version_lock.specs.declared.view.View.{View}
use Rattle.version_lock.specs.Beginnings.{entries_by}
use Rattle.version_lock.specs.Views.{enrolled}
use Rattle.version_lock.specs.Calls.{view}
use Rattle.version_lock.proofs.Turns.{mine_enrolled}
use Rattle.version_lock.proofs.lock.VersionLock.enroll.Goals as goal

pub invariant_of-seat-2 : goal.invariant_of-seat-2
invariant_of-seat-2 g c = let is : view c.enroll_at.new.seat ≡ enrolled (view c.lock.new.seat) = search rules in (
  search rules,
  record {
    own = search rules;
    empty = search rules;
    idle = search rules;
    live = search rules;
    some = search rules;
    mine = subst
        (λ (v : View). (n : ℕ) → v.writer ≡ Some n → entries_by n v.seen ≡ v.mine)
        (sym is) (mine_enrolled _ _ c.lock.ensures.took.2);
  },
)
