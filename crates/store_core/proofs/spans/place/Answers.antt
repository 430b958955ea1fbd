use Rattle.std.proofs.Common.{Bool, rules}
use Rattle.std.proofs.lemmas.List.Sorted.{IsPartitionPoint-from_clause}
use Rattle.definitions.specs.Items.{Item, comes_before}
use Rattle.definitions.proofs.Partitions.{parted_below}
use Rattle.store_core.proofs.spans.place.Goals as goal

pub returns-clause-parted : goal.returns-clause-parted
returns-clause-parted c =
    let before : Item → Bool = λ z. comes_before z c.args.lower.now in
    IsPartitionPoint-from_clause before c.args.items.now c.partition_point.result
    c.partition_point.ensures.partitioned (parted_below c.args.items.now c.args.lower.now c.requires)
    (λ a r q k. search rules)
