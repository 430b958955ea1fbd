use Rattle.std.proofs.Common.{◌≡◌, ℕ, Some, Contains}
use Rattle.slab.specs.Slab.{get}
use Rattle.hub_core.specs.Hubs.{is_late}
use Rattle.hub_core.proofs.Walks.{IsLeft}
use Rattle.hub_core.proofs.hub.Hub.late.Given as goal

abbrev pub invariant-loop-key : goal.invariant-loop-key
invariant-loop-key g l =
    (goal.iterator-loop-key g).can_next l.key-iterator ×
    (goal.iterator-loop-key g).is_finite l.key-iterator ×
    ((key : ℕ) (p : _) → Contains l.key-iterator (key, p) → get l.self.peers key ≡ Some p) ×
    IsLeft (is_late l.self.limits l.now) l.self.peers l.key-iterator
