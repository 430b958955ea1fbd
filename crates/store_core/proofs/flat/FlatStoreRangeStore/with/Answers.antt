use Rattle.std.proofs.Common.{◌≡◌, ◌++◌, ◌∷◌, ◌∙◌, [], ap, sym, take, drop, rules}
use Rattle.definitions.specs.Items.{IsItem}
use Rattle.definitions.specs.Sets.{add_item}
use Rattle.definitions.specs.Fingerprints.{two_lanes}
use Rattle.definitions.proofs.Additions.{set_add, all_add}
use Rattle.store_core.specs.Flat.{flat_items}
use Rattle.store_core.specs.Sums.{running_sums}
use Rattle.store_core.proofs.Running.{sums-length}
use Rattle.store_core.proofs.flat.FlatStoreRangeStore.with.Goals as goal

pub with_hashed-requires : goal.with_hashed-requires
with_hashed-requires c =
    rw (
      c.deref-in-Some-2.ensures.value,
      c.args.self.now.summed,
      sums-length two_lanes.of [] (flat_items c.args.self.now),
    )
    (rw c.deref.ensures.value at c.in-Some.ensures.within)

pub invariant_of-result : goal.invariant_of-result
invariant_of-result c =
    let old = c.args.self.now in
    let items = flat_items old in
    let place = c.in-Some.place in
    let placed = rw c.deref-in-Some.ensures.value at c.in_ok-with_item-in-Some.ensures in
    let added : c.in_ok-with_item-in-Some.field-0.items ≡ add_item items c.args.item = search rules in
    rw added (record {
      rises = set_add items c.args.item old.rises;
      are_items = all_add IsItem items c.args.item old.are_items c.new-hashed.ensures.is_item;
      summed = c.in_ok-with_hashed-in-Some.ensures items (c.deref-in-Some-2.ensures.value ∙ old.summed)
          ∙ ap (λ x. running_sums (take place items ++ x ∷ drop place items)) c.new-hashed.ensures.item
          ∙ ap running_sums (sym placed ∙ added);
    })
