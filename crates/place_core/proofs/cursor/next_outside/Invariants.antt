use Rattle.std.proofs.Common.{◌≡◌, ◌-◌, drop, length}
use Rattle.definitions.specs.Messages.{open_parts}
use Rattle.definitions.specs.Placing as placing
use Rattle.place_core.proofs.cursor.next_outside.Given as goal

-- the parts before the place are skipped
abbrev pub invariant-skipped : goal.invariant-skipped
invariant-skipped g l = placing.next_outside (open_parts (drop l.start l.sent)) l.part
    ≡ placing.next_outside (open_parts (drop l.at l.sent)) l.part

abbrev pub decreases-skipped : goal.decreases-skipped
decreases-skipped g l = length l.sent - l.at
