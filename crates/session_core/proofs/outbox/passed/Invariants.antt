use Rattle.std.proofs.Common.{◌≡◌, ◌≤◌, ◌-◌, length, drop}
use Rattle.session_core.specs.Outboxes.{ends_after}
use Rattle.session_core.proofs.outbox.passed.Given as goal

abbrev pub invariant-loop-passed : goal.invariant-loop-passed
invariant-loop-passed l = record {
  few : l.passed ≤ length l.ends;
  rest : ends_after l.count l.ends ≡ ends_after l.count (drop l.passed l.ends);
}

abbrev pub decreases-loop-passed : goal.decreases-loop-passed
decreases-loop-passed l = length l.ends - l.passed
