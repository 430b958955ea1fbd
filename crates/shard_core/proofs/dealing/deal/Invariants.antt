use Rattle.std.proofs.Common.{◌≡◌, ◌++◌, ◌^◌, List, take, length}
use Rattle.definitions.specs.Items.{Item}
use Rattle.shard_core.specs.Shards.{shards}
use Rattle.shard_core.specs.Splits.{held}
use Rattle.shard_core.proofs.dealing.deal.Given as goal

abbrev pub invariant-loop-item : goal.invariant-loop-item
invariant-loop-item l = record {
  dealt : (before : List Item) → held l.fn.lists.items ≡ shards l.bits before →
      held l.lists.items ≡ shards l.bits (before ++ take l.item-index l.items);
  all : length l.lists.items ≡ 2 ^ l.bits;
}
