use Rattle.std.proofs.Common.{arith, ◌∙◌, ap, sym, Some, []}
use Rattle.std.proofs.lemmas.Option.{get_or_from_slice_get}
use Rattle.version_log.proofs.Arrivals.{length_before, entry_of_first}
use Rattle.version_log.proofs.arrival.first_entry.Goals as goal

pub place_after-place-requires : goal.place_after-place-requires
place_after-place-requires g c =
    let A = g.S.RangeStore.content c.args.store.now in
    omega (arith, length_before c.args.arrivals.now A c.requires.come, c.requires.few, c.requires.low)

pub item_at-requires : goal.item_at-requires
item_at-requires g c =
    (c.place_after-place.ensures (g.S.RangeStore.content c.args.store.now) c.requires.come c.requires.low).0

pub returns : goal.returns
returns g c =
    let A = g.S.RangeStore.content c.args.store.now in
    let at = c.place_after-place.ensures A c.requires.come c.requires.low in
    let is = get_or_from_slice_get A c.place_after-place.result c.item_at.result [] c.item_at.ensures in
    entry_of_first c.args.arrivals.now A c.args.index c.requires.low
    ∙ ap (λ x. Some (0, x)) (sym at.1 ∙ is) ∙ ap Some (sym c.new.ensures)
