use Rattle.std.proofs.Common.{◌≡◌, ◌+◌, drop}
use Rattle.toml.specs.View.{items_view}
use Rattle.item_files.specs.StrayKeys.{stray_in_rows}
use Rattle.item_files.proofs.stray_keys.stray_in_rows.Given as goal

abbrev pub invariant-loop-entry : goal.invariant-loop-entry
invariant-loop-entry l = record {
  left : stray_in_rows (l.entry-index + 1) (items_view (drop l.entry-index l.entries.items))
      ≡ stray_in_rows 1 (items_view l.entries.items);
  number : l.number ≡ l.entry-index;
}
