use Rattle.std.proofs.Common.{◌≡◌, ◌-◌, take}
use Rattle.definitions.specs.Replies.{inner_cuts}
use Rattle.definitions.specs.Strategies.{shares}
use Rattle.ends_core.proofs.replying.places_of.Given as goal

abbrev pub invariant-loop-before : goal.invariant-loop-before
invariant-loop-before l = l.places.items ≡ take (l.before - 1) (inner_cuts 0 (shares l.strategy l.n))
