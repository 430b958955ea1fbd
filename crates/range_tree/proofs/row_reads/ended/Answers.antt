use Rattle.std.proofs.Common.{ℕ, Bool, rules}
use Rattle.std.proofs.Math.Dec.{leb}
use Rattle.std.proofs.lemmas.List.Sorted.{IsPartitionPoint-from_clause, IsPartitionedBy-leb}
use Rattle.range_tree.proofs.row_reads.ended.Goals as goal

pub returns-clause-parted : goal.returns-clause-parted
returns-clause-parted c =
    let passed : ℕ → Bool = λ end. leb end c.args.place in
    IsPartitionPoint-from_clause passed c.args.ends.now c.partition_point.result c.partition_point.ensures.partitioned
    (IsPartitionedBy-leb (λ end. end) c.args.ends.now c.args.place c.requires) (λ a r q k. search rules)
