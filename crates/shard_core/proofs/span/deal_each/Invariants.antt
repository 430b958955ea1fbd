use Rattle.std.proofs.Common.{◌≡◌, ◌++◌, List, take, length}
use Rattle.definitions.specs.Items.{Item}
use Rattle.shard_core.specs.Shards.{shards}
use Rattle.shard_core.specs.Splits.{held}
use Rattle.shard_core.specs.Spans.{kept}
use Rattle.shard_core.proofs.span.deal_each.Given as goal

abbrev pub invariant-loop-place : goal.invariant-loop-place
invariant-loop-place l = record {
  dealt : (before : List Item) → held l.fn.lists ≡ shards l.span.bits before →
      held l.lists ≡ shards l.span.bits (before ++ kept l.span.bits l.span.first l.span.last (take l.place l.items));
  all : length l.lists ≡ length l.fn.lists;
}
