use Rattle.std.proofs.Common.{◌≡◌, ◌++◌, take}
use Rattle.std.specs.Prelude.{flat_map}
use Rattle.watch_core.specs.PageTexts.{visit_row}
use Rattle.watch_core.proofs.page.push_visits.Given as goal

abbrev pub invariant-loop-visit : goal.invariant-loop-visit
invariant-loop-visit l = l.page.items ≡ l.fn.page.items ++ flat_map (visit_row l.now) (take l.visit-index l.visits)
