use Rattle.std.proofs.Common.{◌≡◌, ◌++◌, drop}
use Rattle.std.specs.Prelude.{map}
use denote.Shadow.{shadow}
use denote.Text.{Utf8}
use Rattle.watch_core.specs.PageTexts.{filled}
use Rattle.watch_core.specs.Pieces.{cell_text}
use Rattle.watch_core.proofs.filling.push_filled.Given as goal

-- what was appended, and what the rest gives with the values that are left
abbrev pub invariant-loop-cell : goal.invariant-loop-cell
invariant-loop-cell l = record {
  text : shadow (Utf8 l.rest);
  all : l.page.items ++ filled l.rest (map cell_text (drop l.cell-index l.cells))
      ≡ l.fn.page.items ++ filled l.fn.template (map cell_text l.cells);
}
