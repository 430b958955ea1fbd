use Rattle.std.proofs.Common.{take}
use Rattle.definitions.specs.Sets.{IsSet}
use Rattle.version_log.proofs.front.rising_front.Given as goal

abbrev pub invariant-loop-place : goal.invariant-loop-place
invariant-loop-place l = IsSet (take l.place l.items)
