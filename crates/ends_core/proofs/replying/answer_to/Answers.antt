use Rattle.std.proofs.Common.{◌≡◌, rules}
use Rattle.definitions.specs.Sets.{items_in, difference}
use Rattle.ends_core.proofs.replying.answer_to.Goals as goal

pub unreachable-requires : goal.unreachable-requires
unreachable-requires g c =
    let A = g.S.RangeStore.content c.args.store.now in
    let fits = c.answers_fit.ensures g.F.WireSummary.profile A c.args.range.now c.args.listed.now
    (g.met.S.RangeStore.rises c.args.store.now) (g.met.S.RangeStore.are_items c.args.store.now) c.requires.few
    c.requires.part in
    let unlisted : c.push_unlisted.new.unlisted.items
    ≡ difference (items_in A c.args.range.now) c.args.listed.now = search rules in
    search (rules, fits, unlisted)
