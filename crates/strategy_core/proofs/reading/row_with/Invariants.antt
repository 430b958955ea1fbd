use Rattle.std.proofs.Common.{◌≡◌, ◌+◌, drop}
use Rattle.toml.specs.View.{items_view}
use Rattle.strategy_core.specs.Texts.{row_with}
use Rattle.strategy_core.proofs.reading.row_with.Given as goal

-- the first of the rows still to be read is the first of all: none before them has the key
abbrev pub invariant-loop-entry : goal.invariant-loop-entry
invariant-loop-entry l = record {
  count : l.number ≡ l.entry-index;
  all : row_with l.key (l.number + 1) (items_view (drop l.entry-index l.entries.items))
      ≡ row_with l.key 1 (items_view l.entries.items);
}
