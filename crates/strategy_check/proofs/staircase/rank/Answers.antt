use Rattle.std.proofs.Common.{◌≡◌, ℕ, Bool, rules, arith}
use Rattle.std.specs.Prelude.{nat_lt}
use Rattle.std.proofs.lemmas.List.Sorted.{IsPartitionPoint-from_clause}
use Rattle.definitions.specs.Ranks.{rank_by}
use Rattle.strategy_check.proofs.Steps.{rises_from, rank_by-small, parted_below}
use Rattle.strategy_check.proofs.Counts.{rank_at_point}
use Rattle.strategy_check.proofs.staircase.rank.Goals as goal

rank_is : (c : goal.After-partition_point) → rank_by c.args.steps.now c.args.n ≡ c.partition_point.result
rank_is c =
    let below : ℕ → Bool = λ step. nat_lt step c.args.n in
    rank_at_point c.args.steps.now c.args.n c.partition_point.result
    (IsPartitionPoint-from_clause below c.args.steps.now c.partition_point.result c.partition_point.ensures.partitioned
    (parted_below c.args.steps.now c.args.n c.requires) (λ a r q k. search rules))
    c.partition_point.ensures.bound

pub overflow_cast-result : goal.overflow_cast-result
overflow_cast-result c =
    let small =
    rank_by-small 0 c.args.steps.now c.args.n (rises_from 0 c.args.steps.now c.requires (λ h. omega arith)) in
    let fits = c.ranges.n.fits in
    omega (arith, rank_is c)

pub returns-clause-rank : goal.returns-clause-rank
returns-clause-rank c = let is = rank_is c in omega arith

pub returns-clause-small : goal.returns-clause-small
returns-clause-small c =
    let small =
    rank_by-small 0 c.args.steps.now c.args.n (rises_from 0 c.args.steps.now c.requires (λ h. omega arith)) in
    omega (arith, rank_is c)
