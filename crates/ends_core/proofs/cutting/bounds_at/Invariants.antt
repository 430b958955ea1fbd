use Rattle.std.proofs.Common.{◌≡◌, take, map}
use Rattle.definitions.specs.Replies.{bound_at}
use Rattle.strategy_core.specs.Rules.{bounds_of}
use Rattle.store_core.specs.Stores.{span}
use Rattle.ends_core.proofs.cutting.bounds_at.Given as goal

abbrev pub invariant-loop-place : goal.invariant-loop-place
invariant-loop-place g l =
    l.held.items ≡ map (bound_at (bounds_of l.bounds) (span l.at.from l.at.to (g.S.RangeStore.content l.store)))
    (take l.place-index l.places)
