use Rattle.std.proofs.Common.{rules, ◌≡◌, ◌∙◌, ◌≤◌, ◌<◌, ◌+◌, ◌^◌, ap, sym, subst, length, arith}
use Rattle.std.proofs.lemmas.List.{length-map}
use Rattle.shard_core.specs.Splits.{held}
use Rattle.loading.specs.Sharded.{HaveCap, contents}
use Rattle.loading.proofs.OpenedLogs.{listed, how_many, are_sets, have_cap, opened_many, contents_opened}
use Rattle.loading.proofs.sharded_set.ShardedSet.of.Goals as goal

pub logs_by-requires-clause-sets : goal.logs_by-requires-clause-sets
logs_by-requires-clause-sets g c =
    let (last, rises, within, kept) = c.requires.shards in
    let sets = are_sets c.shards_make_the_set.ensures.sets c.args.bits c.args.first last c.args.cap
    (held c.args.shards.items) kept in
    search (rules, sets)

pub invariant_of-result : goal.invariant_of-result
invariant_of-result g c =
    let (last, rises, within, kept) = c.requires.shards in
    let many = how_many c.args.bits c.args.first last c.args.cap (held c.args.shards.items) kept in
    let logs = c.in_ok-logs.ensures in
    let all = ap length logs ∙ opened_many c.args.cap (held c.args.shards.items) in (
      c.requires.low,
      omega (arith, many, all, rises),
      omega (arith, many, all, rises, within),
      subst (λ ls. HaveCap c.args.cap ls) (sym logs) (have_cap c.args.cap (held c.args.shards.items)),
    )

pub returns-clause-contents : goal.returns-clause-contents
returns-clause-contents g c =
    let (last, rises, within, kept) = c.requires.shards in
    let sets = are_sets c.shards_make_the_set.ensures.sets c.args.bits c.args.first last c.args.cap
    (held c.args.shards.items) kept in
    ap contents c.in_ok-logs.ensures ∙ contents_opened c.args.cap (held c.args.shards.items) sets
