use Rattle.std.proofs.Common.{◌≡◌, None, drop}
use Rattle.std.specs.Option.{option_copied}
use Rattle.definitions.specs.Faults as faults
use Rattle.wire_core.proofs.body.items_fault.Given as goal

-- the first fault of the items that are left is the first of all
abbrev pub invariant-loop-item : goal.invariant-loop-item
invariant-loop-item l = faults.items_fault l.range (option_copied l.before) (drop l.item-index l.items)
    ≡ faults.items_fault l.range None l.items
