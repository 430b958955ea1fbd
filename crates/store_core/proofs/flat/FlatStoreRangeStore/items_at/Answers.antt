use Rattle.std.proofs.Common.{◌≡◌, ◌-◌, ◌∙◌, ap, subst, List, take, drop, length, rules}
use Rattle.std.specs.Prelude.{IfOk}
use Rattle.definitions.specs.Items.{Item}
use Rattle.store_core.specs.Flat.{flat_items}
use Rattle.store_core.specs.Stores.{span}
use Rattle.store_core.proofs.Fronts.{span_slice}
use Rattle.store_core.proofs.flat.FlatStoreRangeStore.items_at.Goals as goal

pub returns : goal.returns
returns c =
    let A = flat_items c.args.self.now in
    let at = c.fitted-from.result in
    let count : length A ≡ c.len.result = search rules in
    let value : take (at.to - at.from) (drop at.from c.deref.result.now) ≡ span c.args.at.from c.args.at.to A =
    ap (λ xs. take (at.to - at.from) (drop at.from xs)) c.deref.ensures.value
    ∙ span_slice A at.from at.to c.fitted-from.ensures.order ∙ c.fitted-from.ensures.same A count in
    subst (λ (v : List Item). IfOk c.from_slice.result (λ held. held.items ≡ v)) value c.from_slice.ensures.items
