use Rattle.std.proofs.Common.{◌∙◌, ◌<◌, ap, subst, sym}
use Rattle.definitions.specs.Sets.{set_of}
use Rattle.shard_core.specs.Shards.{shards}
use Rattle.shard_core.specs.Splits.{held}
use Rattle.shard_core.proofs.Spanned.{into_kept}
use Rattle.shard_core.proofs.span.into_span.Goals as goal

pub keep_span-requires : goal.keep_span-requires
keep_span-requires c =
    (c.requires.span.0, subst (λ n. c.args.last < n) (sym c.in_ok-sets.ensures.all) c.requires.span.1)

pub returns-clause-kept : goal.returns-clause-kept
returns-clause-kept c = λ b xs all holds.
    let (dealt, lists, same) = holds in
    let sets = c.in_ok-sets.ensures.shards b dealt lists ∙ ap (λ A. shards b A) same in
    let within = subst (λ n. c.args.last < n) all c.requires.span.1 in
    into_kept b c.args.first c.args.last c.args.cap (held c.in_ok-keep_span.field-0.items) xs
    (c.in_ok-keep_span.ensures.room c.args.cap c.in_ok-sets.ensures.room)
    (c.in_ok-keep_span.ensures.shards b (set_of xs) within sets)
