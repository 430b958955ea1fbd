use Rattle.std.proofs.Common.{◌≡◌, ◌+◌, drop}
use Rattle.definitions.specs.Compact.{shared}
use Rattle.compact_core.proofs.spelling.shared.Given as goal

-- so many are the same, and those that are the same after them
abbrev pub invariant-same : goal.invariant-same
invariant-same l = l.index + shared (drop l.index l.left) (drop l.index l.right) ≡ shared l.left l.right
