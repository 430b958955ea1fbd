use Rattle.std.proofs.Common.{◌≡◌, ◌++◌, take, map}
use Rattle.definitions.specs.Fingerprints.{join_lanes}
use Rattle.store_core.proofs.sums.with_hashed.Given as goal

abbrev pub invariant-loop-sum : goal.invariant-loop-sum
invariant-loop-sum l =
    l.held.items ≡ l.initial.held.items ++ map (λ sum. join_lanes sum l.own) (take l.sum-index l.back)
