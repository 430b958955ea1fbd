use Rattle.strategy_core.proofs.Readings.{RowsTo}
use Rattle.strategy_core.proofs.reading.rows_of.Given as goal

abbrev pub invariant-loop-entry : goal.invariant-loop-entry
invariant-loop-entry l = RowsTo l.cap l.entries.items l.entry-index l.before l.rows.items
