use Rattle.std.proofs.Common.{rules}
use Rattle.shard_core.specs.Splits.{held}
use Rattle.loading.specs.Sharded.{AreSets}
use Rattle.loading.proofs.logs.+fn-logs_by-join+arg2+fn-logs_by-join+arg3+logs_by.Goals as goal

pub join-low-requires-after_bounds : goal.join-low-requires-after_bounds
join-low-requires-after_bounds g t c κs within =
    let both : AreSets c.args.opening.cap (held c.in_ok-front.front.items)
    × AreSets c.args.opening.cap (held c.in_ok-front.back.items) =
    c.in_ok-front.ensures.sets c.args.opening.cap c.requires.sets in
    let front = both.0 in
    let back = both.1 in
    search (rules, front, back)
