use Rattle.std.proofs.Common.{◌≡◌, ◌+◌, ◌-◌, ◌≤◌, length, true}
use Rattle.definitions.specs.CompactReading.{entries_from, others_from}
use Rattle.compact_core.proofs.Entries.{with_items}
use Rattle.compact_core.proofs.items.take_entries.Given as goal

-- the items so far, and those that are still to be read, are all
abbrev pub invariant-each : goal.invariant-each
invariant-each l = record {
  so_far : with_items l.items.items
      (others_from (entries_from (length l.initial.bytes.now - length l.items.items) l.width
      l.range.upper l.left l.first l.before) l.bytes.now)
      ≡ entries_from (length l.initial.bytes.now) l.width l.range.upper l.room true l.range.lower l.initial.bytes.now;
  fuel : length l.bytes.now + length l.items.items ≤ length l.initial.bytes.now;
}

abbrev pub decreases-each : goal.decreases-each
decreases-each l = length l.bytes.now
