use Rattle.std.proofs.Common.{◌≡◌, take}
use Rattle.std.specs.List.{AllByRecursion}
use Rattle.definitions.specs.Items.{IsItem}
use Rattle.definitions.specs.Fingerprints.{two_lanes}
use Rattle.store_core.specs.Sums.{running_sums}
use Rattle.store_core.proofs.sums.running.Given as goal

abbrev pub invariant-loop-item : goal.invariant-loop-item
invariant-loop-item l = record {
  are_items : AllByRecursion IsItem (take l.item-index l.items);
  total : l.total ≡ two_lanes.of (take l.item-index l.items);
  sums : l.sums.items ≡ running_sums (take l.item-index l.items);
}
