use Rattle.std.proofs.Common.{[], Some, get_or, ap, sym, ◌∙◌}
use Rattle.std.proofs.lemmas.Option.{get_or_from_slice_get}
use Rattle.version_log.specs.declared.arrival.Arrival.{Arrival}
use Rattle.version_log.proofs.Arrivals.{get_entry, has_room, stands_after}
use Rattle.version_log.proofs.arrival.later_entry.Goals as goal

abbrev none : Arrival
none = record { writer = 0; place = 0 }

pub place_after-place-requires : goal.place_after-place-requires
place_after-place-requires g c =
    has_room c.args.arrivals.now (g.S.RangeStore.content c.args.store.now) c.args.index none c.requires.come
    c.requires.low c.requires.few

pub item_at-requires : goal.item_at-requires
item_at-requires g c =
    (stands_after c.args.arrivals.now (g.S.RangeStore.content c.args.store.now) c.args.index
    c.place_after-place.result none c.requires.come c.requires.low c.place_after-place.ensures).0

pub returns : goal.returns
returns g c =
    let A = g.S.RangeStore.content c.args.store.now in
    let ls = c.args.arrivals.now in
    let at = stands_after ls A c.args.index c.place_after-place.result none c.requires.come c.requires.low
    c.place_after-place.ensures in
    let is = get_or_from_slice_get A c.place_after-place.result c.item_at.result [] c.item_at.ensures in
    get_entry ls A c.args.index none c.requires.low
    ∙ ap (λ x. Some ((get_or ls c.args.index none).writer, x)) (sym at.1 ∙ is) ∙ ap Some (sym c.new.ensures)
