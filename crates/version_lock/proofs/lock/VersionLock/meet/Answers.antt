use Rattle.std.proofs.Common.{rules, ◌≡◌, [], subst}
use Rattle.version_lock.specs.declared.view.View.{View}
use Rattle.version_lock.specs.Views.{waited, noted, note_of, gave_back}
use Rattle.version_lock.specs.Steps.{Took}
use Rattle.version_lock.specs.Calls.{view, Met}
use Rattle.version_lock.proofs.Splitting.{splits_note, joins_note}
use Rattle.version_lock.proofs.Turns.{met}
use Rattle.version_lock.proofs.lock.VersionLock.meet.Goals as goal

pub split_seat-note-requires : goal.split_seat-note-requires
split_seat-note-requires g c =
    (search rules, search rules, splits_note _ _ c.other.invariant.1.live c.other.invariant.1.idle)

pub join_seat-requires : goal.join_seat-requires
join_seat-requires g c = (
  search rules,
  search rules,
  search rules,
  search rules,
  joins_note _ _ _ _ (search rules) (search rules) (search rules) (search rules) (search rules),
)

pub returns-clause-met : goal.returns-clause-met
returns-clause-met g c =
    let v = view c.seat.inside.place in
    let u = view c.other.inside.place in
    let lock = c.lock.ensures.took in
    let is : view c.join_seat.new.seat ≡ noted v (note_of u) = search rules in
    let took : Took (waited lock.0 (noted v (note_of u)), []) c.lock.new.seat.me =
    subst (λ (x : View). Took (waited lock.0 x, []) c.lock.new.seat.me) is lock.2 in
    let all : Met v u (gave_back (view c.lock.new.seat)) =
    met v u lock.0 c.lock.new.seat.me took c.other.invariant.1.mine in
    search (rules, all)
