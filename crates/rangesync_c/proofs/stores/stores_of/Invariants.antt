use Rattle.std.proofs.Common.{◌≡◌, ◌++◌, drop}
use Rattle.std.specs.List.{AllByRecursion}
use Rattle.definitions.specs.Sets.{IsSet}
use Rattle.shard_core.specs.Splits.{held}
use Rattle.rangesync_c.specs.Trees.{held_in}
use Rattle.rangesync_c.proofs.stores.stores_of.Given as goal

abbrev pub invariant-loop-list : goal.invariant-loop-list
invariant-loop-list l = record {
  all : held_in l.stores.items ++ held (drop l.list-index l.lists) ≡ held l.lists;
  rise : AllByRecursion IsSet (held (drop l.list-index l.lists));
}
