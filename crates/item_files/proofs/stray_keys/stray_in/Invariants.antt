use Rattle.std.proofs.Common.{◌≡◌}
use Rattle.toml.specs.View.{members_view, table_view}
use Rattle.item_files.specs.StrayKeys.{stray_in}
use Rattle.item_files.proofs.stray_keys.stray_in.Given as goal

abbrev pub invariant-loop-key : goal.invariant-loop-key
invariant-loop-key l = stray_in l.row (members_view l.key-iterator) ≡ stray_in l.row (table_view l.table)
