-- The sums from a place on are those of the items that follow the ones before it.
use Rattle.std.proofs.Common.{◌∙◌, ◌-◌, ap, take, drop}
use Rattle.definitions.specs.Fingerprints.{two_lanes}
use Rattle.store_core.specs.Stores.{span}
use Rattle.store_core.proofs.Running.{sums-span}
use Rattle.store_core.proofs.sums.part.Goals as goal

pub returns : goal.returns
returns c A same =
    let from = c.args.from in
    let to = c.args.to in
    c.later.ensures (take from A) (span from to A) (c.before-front.ensures A same)
    (ap (λ sums. take (to - from) (drop from sums)) same ∙ sums-span two_lanes.of A from to c.requires.from)
