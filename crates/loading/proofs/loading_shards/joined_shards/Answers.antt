use Rattle.std.proofs.Common.{subst, sym}
use Rattle.shard_core.specs.Splits.{held}
use Rattle.shard_core.specs.Spans.{AreKept}
use Rattle.loading.specs.Cutting.{AreCutBy}
use Rattle.loading.proofs.CutSets.{cut_shards}
use Rattle.loading.proofs.loading_shards.joined_shards.Goals as goal

pub returns-clause-kept : goal.returns-clause-kept
returns-clause-kept g c = c.in_ok-join_shards.ensures.kept c.args.keeping.now.options.bits
    c.args.keeping.now.options.last c.requires.own
    (subst (λ vs. AreKept c.args.keeping.now.options.bits c.args.keeping.now.options.first
    c.args.keeping.now.options.last c.args.keeping.now.options.cap (held vs))
    (sym c.deref.ensures.value) c.in_ok-more.ensures.kept)

pub returns-clause-cut : goal.returns-clause-cut
returns-clause-cut g c = λ own. cut_shards c.args.keeping.now.floor c.args.keeping.now.options.bits
    c.args.keeping.now.options.first c.args.keeping.now.options.last (held c.args.shards.items)
    (held c.deref.result.now) _ own
    (subst (λ vs. AreCutBy c.args.keeping.now.floor c.args.keeping.now.options (held vs))
    (sym c.deref.ensures.value) c.in_ok-more.ensures.cut)
    (λ A B. c.in_ok-join_shards.ensures.joined c.args.keeping.now.options.bits c.args.keeping.now.options.last A B)
