-- What the fields of packed items say of the items.
use Rattle.std.proofs.Common.{◌≡◌, ℕ, ◌+◌, ◌-◌, ◌*◌, ◌^◌, ◌<◌, ◌≤◌, List, [], Some, take, drop, length, ap, subst}
use Rattle.std.proofs.Common.{◌∙◌, arith}
use Rattle.std.specs.List.{slice_get}
use Rattle.std.proofs.lemmas.Option.{slice_get-get_or}
use Rattle.definitions.specs.Items.{Item, IsItem}
use Rattle.definitions.specs.Fingerprints.{Lanes, two_lanes}
use Rattle.store_core.proofs.Running.{sums-length}
use Rattle.range_tree.specs.declared.packed.Packed.TheInside.{Inside}
use Rattle.range_tree.specs.Packs.{joined, pieces, IsPack}
use Rattle.range_tree.proofs.Pieces.{length_ends, start_within, joined_most, joined_one, all_get}

-- by the invariant of the fields, and by which items are seen there
module _ (p : Inside) (xs : List Item)
    (held : IsPack (pieces 0 p.ends.items p.bytes.items) p.bytes.items p.ends.items p.sums.items)
    (view : pieces 0 p.ends.items p.bytes.items ≡ xs) where
  pub packed : IsPack xs p.bytes.items p.ends.items p.sums.items
  packed = subst (λ ys. IsPack ys p.bytes.items p.ends.items p.sums.items) view held

  pub as_many_ends : (ends : List ℕ) → ends ≡ p.ends.items → length ends ≡ length xs
  as_many_ends ends same = ap length (same ∙ packed.are_ends) ∙ length_ends 0 xs

  pub as_many_sums : (sums : List Lanes) → sums ≡ p.sums.items → length sums ≡ length xs
  as_many_sums sums same = ap length (same ∙ packed.are_sums) ∙ sums-length two_lanes.of [] xs

  -- where an item begins, or a next one would
  module _ (place start : ℕ) (is : start ≡ length (joined (take place xs))) where
    pub start_inside : (bytes : List ℕ) → bytes ≡ p.bytes.items → start ≤ length bytes
    start_inside bytes same =
        let all = ap length (same ∙ packed.are_joined) in
        let part = start_within place xs in
        omega arith

    pub start_most : start ≤ 64 * length xs
    start_most =
        let most = joined_most xs packed.are_items in
        let part = start_within place xs in
        omega arith

    pub start_fits : start < 2 ^ 16
    start_fits =
        let most = start_most in
        let few = packed.are_few in
        omega arith

    -- the bytes from there to where the item ends are the item
    module _ (end : ℕ) (bytes : List ℕ) (low : place < length xs) (ends : end ≡ length (joined (take (place + 1) xs)))
        (same : bytes ≡ p.bytes.items) where
      pub bytes_read : slice_get xs place ≡ Some (take (end - start) (drop start bytes))
      bytes_read = rw (is, ends, same, packed.are_joined, joined_one place xs [] low) (slice_get-get_or xs place [] low)

      pub item_read : IsItem (take (end - start) (drop start bytes))
      item_read =
          rw (is, ends, same, packed.are_joined, joined_one place xs [] low)
          (all_get IsItem xs place [] low packed.are_items)
