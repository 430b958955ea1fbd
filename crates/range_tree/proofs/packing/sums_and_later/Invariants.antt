use Rattle.std.proofs.Common.{◌≡◌, ◌++◌, map, take}
use Rattle.definitions.specs.Fingerprints.{join_lanes}
use Rattle.range_tree.proofs.packing.sums_and_later.Given as goal

abbrev pub invariant-loop-sum : goal.invariant-loop-sum
invariant-loop-sum l = l.held.items ≡ l.sums ++ map (λ s. join_lanes l.before s) (take l.sum-index l.others)
