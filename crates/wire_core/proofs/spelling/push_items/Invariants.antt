use Rattle.std.proofs.Common.{◌≡◌, ◌++◌, length, take}
use Rattle.std.specs.Prelude.{flat_map}
use Rattle.definitions.specs.Wire.{short_text, count_text}
use Rattle.wire_core.proofs.spelling.push_items.Given as goal

abbrev pub invariant-loop-item : goal.invariant-loop-item
invariant-loop-item l =
    l.out.items ≡ l.fn.out.items ++ (count_text (length l.items) ++ flat_map short_text (take l.item-index l.items))
