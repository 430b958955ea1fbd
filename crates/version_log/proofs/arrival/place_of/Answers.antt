use Rattle.std.proofs.Common.{rules, ◌∙◌}
use Rattle.version_log.proofs.Arrivals.{before_alone}
use Rattle.version_log.proofs.arrival.place_of.Goals as goal

pub returns-in-Ok : goal.returns-in-Ok
returns-in-Ok g c =
    let A = g.S.RangeStore.content c.args.store.now in
    c.count.ensures ∙ before_alone A c.in-Ok.range c.args.item.now (search rules)
