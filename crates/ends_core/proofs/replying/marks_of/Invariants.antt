use Rattle.std.proofs.Common.{◌≡◌, take, map}
use Rattle.std.specs.Prelude.{not}
use Rattle.definitions.specs.Sets.{has}
use Rattle.ends_core.proofs.replying.marks_of.Given as goal

abbrev pub invariant-loop-item : goal.invariant-loop-item
invariant-loop-item g l =
    l.marks.items ≡ map (λ x. not (has (g.S.RangeStore.content l.store) x)) (take l.item-index l.listed)
