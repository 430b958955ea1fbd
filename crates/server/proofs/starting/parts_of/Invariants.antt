use Rattle.std.specs.Arc.{arc_value}
use Rattle.std.specs.Vec.Iter.{into_iter_items}
use Rattle.loading.specs.Sharded.{HaveCap}
use Rattle.server.proofs.starting.parts_of.Given as goal

abbrev pub invariant-loop-log : goal.invariant-loop-log
invariant-loop-log l = HaveCap (arc_value l.accepted).table.cap (into_iter_items l.log-iterator)
