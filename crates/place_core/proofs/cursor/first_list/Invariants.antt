use Rattle.std.proofs.Common.{◌≡◌, length}
use Rattle.place_core.specs.Placements.{first_list}
use Rattle.place_core.proofs.cursor.first_list.Given as goal

-- no List was passed
abbrev pub invariant-loop-own : goal.invariant-loop-own
invariant-loop-own g l = first_list l.left ≡ first_list l.parts

abbrev pub decreases-loop-own : goal.decreases-loop-own
decreases-loop-own g l = length l.left
