use Rattle.std.proofs.Common.{◌≡◌, ◌++◌, take}
use Rattle.std.specs.Prelude.{flat_map}
use Rattle.watch_core.specs.PageTexts.{partner_row}
use Rattle.watch_core.proofs.page.push_partner_rows.Given as goal

abbrev pub invariant-loop-partner : goal.invariant-loop-partner
invariant-loop-partner l = l.page.items ≡ l.fn.page.items ++ flat_map partner_row (take l.partner-index l.partners)
