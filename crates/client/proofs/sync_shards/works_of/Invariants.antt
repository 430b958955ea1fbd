-- What is there and what is still to come is all.
use Rattle.std.proofs.Common.{◌≡◌, ◌++◌, map}
use Rattle.std.specs.Arc.{arc_value}
use Rattle.std.specs.Vec.Iter.{into_iter_items}
use Rattle.loading.specs.Sharded.{HaveCap}
use Rattle.client.specs.Asking.{task, tasks_of}
use Rattle.client.proofs.sync_shards.works_of.Given as goal

abbrev pub invariant-loop-log : goal.invariant-loop-log
invariant-loop-log l = record {
  caps : HaveCap (arc_value l.accepted).table.cap (into_iter_items l.log-iterator);
  works : map (λ w. task w.number w.address w.log) l.works.items
      ++ tasks_of l.asked l.addresses l.number (into_iter_items l.log-iterator)
      ≡ tasks_of l.fn.asked l.fn.addresses l.fn.first l.fn.logs.items;
}
