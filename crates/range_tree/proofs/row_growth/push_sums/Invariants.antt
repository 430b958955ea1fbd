use Rattle.std.proofs.Common.{◌≡◌, ◌++◌, List, map, take}
use Rattle.definitions.specs.Items.{Item}
use Rattle.definitions.specs.Fingerprints.{join_lanes, two_lanes}
use Rattle.range_tree.proofs.row_growth.push_sums.Given as goal

abbrev pub invariant-loop-sum : goal.invariant-loop-sum
invariant-loop-sum l = (A : List Item) (Bs : List (List Item)) → l.begun ≡ two_lanes.of A →
    l.sums ≡ map (λ B. two_lanes.of (A ++ B)) Bs →
    l.held.items ≡ l.fn.held.items ++ map (λ B. join_lanes l.start (two_lanes.of B)) (take l.sum-index Bs)
