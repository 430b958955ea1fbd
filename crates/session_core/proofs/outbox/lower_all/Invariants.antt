use Rattle.std.proofs.Common.{◌≡◌, ◌-◌, ◌++◌, map, take, drop}
use Rattle.session_core.proofs.outbox.lower_all.Given as goal

abbrev pub invariant-loop-end : goal.invariant-loop-end
invariant-loop-end l = l.ends ≡ map (λ x. x - l.count) (take l.end-index l.fn.ends) ++ drop l.end-index l.fn.ends
