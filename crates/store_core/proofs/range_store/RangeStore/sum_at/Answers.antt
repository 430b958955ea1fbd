-- What stands before the end of a span is what stands before the span, and then the span itself.
use Rattle.std.proofs.Common.{◌≡◌, ◌++◌, ◌∙◌, sym, ap, take}
use Rattle.definitions.specs.Fingerprints.{two_lanes}
use Rattle.store_core.specs.Stores.{span}
use Rattle.store_core.proofs.Fronts.{front_and_span}
use Rattle.store_core.proofs.range_store.RangeStore.sum_at.Goals as goal

pub returns : goal.returns
returns g c =
    let A = g.Self.RangeStore.content c.args.self.now in
    let at = c.fitted-from.result in
    let fronts : take at.to A ≡ take at.from A ++ span at.from at.to A =
    front_and_span A at.from at.to c.fitted-from.ensures.order in
    c.without.ensures.rest (take at.from A) (span at.from at.to A) c.sum_before-2.ensures
    (c.sum_before.ensures ∙ ap (λ B. two_lanes.of B) fronts)
    ∙ ap (λ B. two_lanes.of B) (c.fitted-from.ensures.same A (sym c.len.ensures))
