use Rattle.std.proofs.Common.{◌∙◌, ap, map}
use Rattle.shard_core.specs.Floors.{keeps, kept_by}
use Rattle.shard_core.specs.Splits.{held}
use Rattle.shard_core.proofs.Within.{shards_in, kept_in}
use Rattle.shard_core.proofs.joining.shards_within.Goals as goal

pub returns-clause-shards : goal.returns-clause-shards
returns-clause-shards c b first last A is =
    c.each_within.ensures ∙ ap (map (kept_by c.args.floor.now)) is ∙ shards_in b first last A (keeps c.args.floor.now)

pub returns-clause-kept : goal.returns-clause-kept
returns-clause-kept c b first last cap kept =
    kept_in b first last cap (keeps c.args.floor.now) (held c.args.lists.items) (held c.each_within.result.items)
    c.each_within.ensures kept
