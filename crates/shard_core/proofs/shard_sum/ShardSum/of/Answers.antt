use Rattle.std.proofs.Common.{ap, ◌∙◌}
use Rattle.definitions.specs.Sets.{items_in}
use Rattle.shard_core.specs.Directories.{sum_of}
use Rattle.shard_core.proofs.Entries.{items_in_whole}
use Rattle.shard_core.proofs.shard_sum.ShardSum.of.Goals as goal

pub returns : goal.returns
returns g c =
    c.within.ensures ∙ ap (λ X. sum_of (items_in (g.S.RangeStore.content c.args.store.now) X)) c.whole.ensures
    ∙ ap sum_of (items_in_whole (g.S.RangeStore.content c.args.store.now))
