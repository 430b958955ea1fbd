use Rattle.std.proofs.Common.{◌≡◌, ◌++◌}
use Rattle.std.specs.Vec.Iter.{into_iter_items}
use Rattle.shard_core.specs.Splits.{held}
use Rattle.loading.specs.Sharded.{AreSets, opened_all}
use Rattle.loading.proofs.logs.logs_of.Given as goal

abbrev pub invariant-loop-items : goal.invariant-loop-items
invariant-loop-items l = record {
  rest : l.logs.items ++ opened_all l.opening.cap (held (into_iter_items l.items-iterator))
      ≡ opened_all l.opening.cap (held l.fn.lists.items);
  sets : AreSets l.opening.cap (held (into_iter_items l.items-iterator));
}
