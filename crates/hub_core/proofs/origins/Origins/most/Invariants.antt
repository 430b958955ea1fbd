use Rattle.std.proofs.Common.{◌≡◌, None}
use Rattle.hub_core.specs.Origins.{most_of}
use Rattle.hub_core.proofs.origins.Origins.most.Given as goal

abbrev pub invariant-loop-origin : goal.invariant-loop-origin
invariant-loop-origin l = most_of l.best l.origin-iterator ≡ most_of None l.self
