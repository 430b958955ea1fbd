use Rattle.std.proofs.Common.{◌≡◌, [], replicate, length}
use Rattle.rangesync_c.specs.Trees.{held_in}
use Rattle.rangesync_c.proofs.stores.empty_stores.Given as goal

abbrev pub invariant-loop-made : goal.invariant-loop-made
invariant-loop-made l = record {
  none : held_in l.stores.items ≡ replicate l.made [];
  all : length l.stores.items ≡ l.made;
}
