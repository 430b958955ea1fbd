-- whatever stands in front: the sums of the items that follow it, so many of them
use Rattle.std.proofs.Common.{◌≡◌, List, take}
use Rattle.definitions.specs.Items.{Item}
use Rattle.definitions.specs.Fingerprints.{two_lanes}
use Rattle.store_core.specs.Sums.{sums_after, running_sums}
use Rattle.store_core.proofs.sums.later.Given as goal

abbrev pub invariant-loop-sum : goal.invariant-loop-sum
invariant-loop-sum l = (A B : List Item) → l.front ≡ two_lanes.of A → l.sums ≡ sums_after two_lanes.of A B →
    l.held.items ≡ take l.sum-index (running_sums B)
