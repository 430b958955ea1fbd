use Rattle.std.proofs.Common.{◌≡◌, ◌++◌, take}
use Rattle.std.specs.Prelude.{flat_map}
use Rattle.printing_core.specs.ItemTexts.{item_line}
use Rattle.client.proofs.keeping.tell_items.Given as goal

abbrev pub invariant-loop-item : goal.invariant-loop-item
invariant-loop-item g l =
    l.lines.waiting ≡ l.fn.lines.waiting ++ flat_map (item_line l.form) (take l.item-index l.items)
