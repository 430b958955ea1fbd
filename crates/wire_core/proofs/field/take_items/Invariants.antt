use Rattle.std.proofs.Common.{◌≡◌, ◌-◌, None}
use Rattle.std.specs.Option.{option_copied}
use Rattle.definitions.specs.Reading as reading
use Rattle.wire_core.proofs.Loops.{with_items}
use Rattle.wire_core.proofs.field.take_items.Given as goal

-- the items so far, and those that are still to be read, are all
abbrev pub invariant-each : goal.invariant-each
invariant-each l =
    with_items l.items.items (reading.items_at l.range (l.count - l.counter) (option_copied l.before) l.bytes.now)
    ≡ reading.items_at l.range l.count None l.initial.bytes.now
