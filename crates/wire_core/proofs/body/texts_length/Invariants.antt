use Rattle.std.proofs.Common.{◌≡◌, ◌≤◌, ◌*◌, length, take}
use Rattle.std.specs.Prelude.{sum_by}
use Rattle.std.specs.List.{AllByRecursion}
use Rattle.definitions.specs.Items.{IsItem}
use Rattle.definitions.specs.Wire.{short_text}
use Rattle.wire_core.proofs.body.texts_length.Given as goal

abbrev pub invariant-loop-item : goal.invariant-loop-item
invariant-loop-item l = record {
  so_far : l.total ≡ sum_by (λ x. length (short_text x)) (take l.item-index l.items);
  small : l.total ≤ 65 * l.item-index;
  each : AllByRecursion IsItem (take l.item-index l.items);
}
