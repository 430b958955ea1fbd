use Rattle.std.proofs.Common.{◌∙◌, sym}
use Rattle.std.proofs.lemmas.List.{take_rest}
use Rattle.std.proofs.lemmas.List.Kept.{IsStrictlySortedBy-filter}
use Rattle.definitions.specs.Items.{item_cmp, comes_before}
use Rattle.definitions.proofs.Partitions.{filter_is_back}
use Rattle.store_core.proofs.Fronts.{span_is}
use Rattle.store_core.proofs.spans.within.Goals as goal

pub end-requires : goal.end-requires
end-requires c =
    let rest = take_rest c.args.items.now c.place-from.result
    ∙ sym (filter_is_back (λ z. comes_before z c.lower.result.now) c.args.items.now _ c.place-from.ensures.parted) in
    rw rest (IsStrictlySortedBy-filter item_cmp _ c.args.items.now c.requires)

pub returns-clause-items : goal.returns-clause-items
returns-clause-items c =
    span_is c.args.items.now c.args.range.now c.place-from.result c.end.result
    (rw c.lower.ensures.lower at c.place-from.ensures.parted)
    (rw (take_rest c.args.items.now c.place-from.result, c.upper.ensures.upper) at c.end.ensures.front)
