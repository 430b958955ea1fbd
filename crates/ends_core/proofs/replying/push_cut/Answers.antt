-- The places are where the table cuts the items of the span, so they rise and are below their number, the bounds there
-- rise, and each part has the items between two of them.
use Rattle.std.proofs.Common.{◌≡◌, ◌∙◌, length, map, sym, ap, subst, rules}
use Rattle.std.specs.List.Sorted.{IsNonDecreasing}
use Rattle.definitions.specs.Items.{cut_range}
use Rattle.definitions.specs.Replies.{inner_cuts, bound_at}
use Rattle.definitions.specs.Sets.{items_in}
use Rattle.definitions.specs.Strategies.{shares}
use Rattle.laws.specs.Cutting.{pieces_at}
use Rattle.ends_core.proofs.Pieces.{places_are, within_items, within_reach}
use Rattle.ends_core.proofs.RunningSums.{cuts_order}
use Rattle.ends_core.proofs.replying.push_cut.Goals as goal

pub bounds_at-requires : goal.bounds_at-requires
bounds_at-requires g c =
    let A = g.S.RangeStore.content c.args.store.now in
    let X = c.args.range.now in
    within_items c.args.strategy.now A X c.args.at.from c.args.at.to c.requires.end c.requires.at c.count_at.result
    c.deref.result.now c.count_at.ensures.count (c.deref.ensures.value ∙ c.in_ok-places.ensures)
    (c.shares_are_parts.ensures c.args.strategy.now c.count_at.ensures.table (length (items_in A X)) c.requires.split)

pub cut_range-requires : goal.cut_range-requires
cut_range-requires g c =
    let A = g.S.RangeStore.content c.args.store.now in
    let X = c.args.range.now in
    let T = c.args.strategy.now in
    let at = c.args.at in
    let B = items_in A X in
    let places : c.deref.result.now ≡ inner_cuts 0 (shares T (length B)) = places_are T A X at.from at.to c.requires.end
    c.requires.at c.count_at.result c.deref.result.now c.count_at.ensures.count
    (c.deref.ensures.value ∙ c.in_ok-places.ensures) in
    let bounds : c.deref-2.result.now ≡ map (bound_at T.bounds B) c.deref.result.now =
    c.deref-2.ensures.value ∙ c.in_ok-bounds.ensures
    ∙ (λ i. map (bound_at (c.bounds.ensures i) (c.requires.at i)) c.deref.result.now) in
    rw (bounds, places)
    (c.cuts_have_ranges.ensures (record { table = T; items = A }) X (g.met.S.RangeStore.rises c.args.store.now)
    c.lower.ensures.range.rises)

pub push_sums-requires-clause-within : goal.push_sums-requires-clause-within
push_sums-requires-clause-within g c =
    let A = g.S.RangeStore.content c.args.store.now in
    let X = c.args.range.now in
    within_reach c.args.strategy.now A X c.args.at.from c.args.at.to c.requires.end c.requires.at c.count_at.result
    c.deref-3.result.now c.count_at.ensures.count (c.deref-3.ensures.value ∙ c.in_ok-places.ensures)
    (c.shares_are_parts.ensures c.args.strategy.now c.count_at.ensures.table (length (items_in A X)) c.requires.split)

pub push_sums-requires-clause-rise : goal.push_sums-requires-clause-rise
push_sums-requires-clause-rise g c =
    let places : c.deref-3.result.now ≡ inner_cuts 0 (shares c.args.strategy.now c.count_at.result) =
    c.deref-3.ensures.value ∙ c.in_ok-places.ensures in
    subst IsNonDecreasing (sym places) (cuts_order 0 (shares c.args.strategy.now c.count_at.result))

pub push_sums-requires-clause-pieces : goal.push_sums-requires-clause-pieces
push_sums-requires-clause-pieces g c =
    let A = g.S.RangeStore.content c.args.store.now in
    let X = c.args.range.now in
    let T = c.args.strategy.now in
    let at = c.args.at in
    let B = items_in A X in
    let places : c.deref-3.result.now ≡ inner_cuts 0 (shares T (length B)) = places_are T A X at.from at.to
    c.requires.end c.requires.at c.count_at.result c.deref-3.result.now c.count_at.ensures.count
    (c.deref-3.ensures.value ∙ c.in_ok-places.ensures) in
    let same : c.deref.result.now ≡ c.deref-3.result.now = c.deref.ensures.value ∙ sym c.deref-3.ensures.value in
    let bounds : c.deref-2.result.now ≡ map (bound_at T.bounds B) c.deref-3.result.now =
    c.deref-2.ensures.value ∙ c.in_ok-bounds.ensures
    ∙ (λ i. map (bound_at (c.bounds.ensures i) (c.requires.at i)) (same i)) in
    let cut = c.cuts_are_pieces.ensures T.bounds A X (shares T (length B)) (g.met.S.RangeStore.rises c.args.store.now)
    (c.shares_are_parts.ensures T c.count_at.ensures.table (length B) c.requires.split) in
    ap (map (items_in A)) (c.deref-4.ensures.value ∙ c.in_ok-ranges.ensures
    ∙ ap (cut_range X) (bounds ∙ ap (map (bound_at T.bounds B)) places)) ∙ cut
    ∙ sym (λ i. pieces_at 0 (places i) (c.requires.at i))
