use Rattle.std.proofs.Common.{Bool, rules}
use Rattle.std.proofs.lemmas.List.Sorted.{IsPartitionPoint-from_clause}
use Rattle.definitions.specs.Items.{Item, is_below}
use Rattle.item_core.specs.Bounds.{upper_value}
use Rattle.definitions.proofs.Partitions.{filter_is_front, parted_by_upper}
use Rattle.store_core.proofs.spans.end.Goals as goal

pub returns-clause-front : goal.returns-clause-front
returns-clause-front c =
    let upper = upper_value c.args.upper.now in
    let before : Item → Bool = λ z. is_below z upper in
    filter_is_front before c.args.items.now c.partition_point.result (IsPartitionPoint-from_clause before
    c.args.items.now c.partition_point.result c.partition_point.ensures.partitioned
    (parted_by_upper c.args.items.now upper c.requires) (λ a r q k. search rules))
