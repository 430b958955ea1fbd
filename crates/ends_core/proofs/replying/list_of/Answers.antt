use Rattle.std.proofs.Common.{◌∙◌, rules}
use Rattle.definitions.specs.Items.{IsRange}
use Rattle.ends_core.proofs.replying.list_of.Goals as goal

pub listing-requires : goal.listing-requires
listing-requires g c =
    let A = g.S.RangeStore.content c.args.store.now in
    let range : IsRange c.args.range = search rules in
    let fits = c.sets_fit.ensures g.F.WireSummary.profile A c.args.range (g.met.S.RangeStore.rises c.args.store.now)
    (g.met.S.RangeStore.are_items c.args.store.now) c.requires.few range in
    rw (c.in_ok-items_at.ensures ∙ c.requires.at) fits
