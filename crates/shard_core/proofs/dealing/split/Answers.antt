use Rattle.std.proofs.Common.{sym, ◌≤◌, subst, []}
use Rattle.std.specs.List.{AllByRecursion}
use Rattle.std.proofs.lemmas.Result.{IfOk-weaker}
use Rattle.definitions.specs.Sets.{IsSet}
use Rattle.shard_core.proofs.Numbers.{few}
use Rattle.shard_core.proofs.Dealt.{shards_are_sets}
use Rattle.shard_core.proofs.dealing.split.Goals as goal

pub into_sets-requires : goal.into_sets-requires
into_sets-requires c =
    subst (λ n. n ≤ 4096) (sym c.in_ok-deal.ensures.all) (few c.args.bits c.requires)

pub returns-clause-sets : goal.returns-clause-sets
returns-clause-sets c = IfOk-weaker c.into_sets.result _ _
    (λ v is. subst (λ Z. AllByRecursion IsSet Z) (sym is) (shards_are_sets c.args.bits c.args.items.now))
    (c.into_sets.ensures.shards c.args.bits c.args.items.now (c.in_ok-deal.ensures.dealt [] c.in_ok-lists.ensures.none))
