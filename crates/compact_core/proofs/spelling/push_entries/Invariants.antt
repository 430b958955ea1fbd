use Rattle.std.proofs.Common.{◌≡◌, ◌++◌, drop}
use Rattle.definitions.specs.Compact.{entries_text}
use Rattle.compact_core.proofs.spelling.push_entries.Given as goal

-- what was written, and what is still to be written, is all
abbrev pub invariant-each : goal.invariant-each
invariant-each l = l.out.items ++ entries_text l.width l.before (drop l.item-index l.items)
    ≡ l.fn.out.items ++ entries_text l.width l.lower l.items
