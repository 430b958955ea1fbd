use Rattle.std.proofs.Common.{Bool, rules}
use Rattle.std.specs.Prelude.{nat_lt}
use Rattle.std.proofs.lemmas.List.Sorted.{IsPartitionPoint-from_clause}
use Rattle.definitions.specs.Strategies.{Row}
use Rattle.strategy_core.proofs.Rows.{parted_at}
use Rattle.strategy_core.proofs.row.place.Goals as goal

pub returns-clause-parted : goal.returns-clause-parted
returns-clause-parted c =
    let before : Row → Bool = λ row. nat_lt row.upto c.args.n in
    IsPartitionPoint-from_clause before c.args.rows.now c.partition_point.result c.partition_point.ensures.partitioned
    (parted_at c.args.rows.now c.args.n c.requires) (λ a r q k. search rules)
