use Rattle.hub_core.specs.Hubs.{measured}
use Rattle.hub_core.proofs.Walks.{Walks}
use Rattle.hub_core.proofs.hub.Hub.greatest.Given as goal

abbrev pub invariant-loop-key : goal.invariant-loop-key
invariant-loop-key g l =
    (goal.iterator-loop-key g).can_next l.key-iterator ×
    (goal.iterator-loop-key g).is_finite l.key-iterator ×
    Walks (measured l.by) l.self.peers l.key-iterator l.best
