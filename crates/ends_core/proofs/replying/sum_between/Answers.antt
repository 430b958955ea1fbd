-- What stands before the end of the span is what stands before its start, and then the items of the span.
use Rattle.std.proofs.Common.{◌∙◌, sym, ap, take}
use Rattle.definitions.specs.Fingerprints.{two_lanes}
use Rattle.store_core.specs.Stores.{span}
use Rattle.store_core.proofs.Fronts.{front_and_span}
use Rattle.ends_core.proofs.Pieces.{length-span}
use Rattle.ends_core.proofs.replying.sum_between.Goals as goal

pub returns : goal.returns
returns g c A order within before next =
    let at = c.args.at in
    c.of_set.ensures (span at.from at.to A) (c.len.ensures ∙ sym (length-span A at.from at.to within))
    (c.without.ensures.rest (take at.from A) (span at.from at.to A) before
    (next ∙ ap (λ B. two_lanes.of B) (front_and_span A at.from at.to order)))
