-- The leaves of two halves, one list after the other.
use Rattle.std.proofs.Common.{◌≡◌, ◌<◌, List, ◌++◌, length, map, sym, ap, subst, ◌∙◌, arith}
use Rattle.std.specs.Arc.{arc_value}
use Rattle.std.specs.List.{flat_map, AllByRecursion}
use Rattle.std.specs.declared.sync.Arc.{Arc}
use Rattle.std.proofs.lemmas.List.{map-append}
use Rattle.std.proofs.lemmas.List.Concat.{flat_map-append}
use Rattle.definitions.specs.Items.{Item, IsItem}
use Rattle.range_tree.specs.declared.leaf.Leaf.{Leaf}
use Rattle.range_tree.specs.Nodes.{IsFull}
use Rattle.range_tree.specs.Leaves.{leaf_items, leaf_width}
use Rattle.range_tree.specs.Loads.{AreLeavesOf}
use Rattle.range_tree.proofs.Fits.{leaves_most}
use Rattle.range_tree.proofs.Pieces.{all_append}
use Rattle.range_tree.proofs.Widths.{wide_append, wide_from_full, full_from_wide}

-- where each half has more items than one leaf can hold, each has two leaves, so all are wide
full_halves : (ls ms : List Leaf) → 64 < length (flat_map leaf_items ls) → 64 < length (flat_map leaf_items ms) →
    IsFull leaf_width ls → IsFull leaf_width ms → IsFull leaf_width (ls ++ ms)
full_halves ls ms first second full too =
    let most = leaves_most ls in
    let most_too = leaves_most ms in
    full_from_wide leaf_width (ls ++ ms) (wide_append leaf_width ls ms
    (wide_from_full leaf_width ls (omega arith) full) (wide_from_full leaf_width ms (omega arith) too))

pub leaves_joined : {Z : Type 0} (A front back : List Item) (ls ms held : List (Arc Leaf Z)) → front ++ back ≡ A →
    64 < length front → 64 < length back → AreLeavesOf front ls → AreLeavesOf back ms → held ≡ ls ++ ms →
    AreLeavesOf A held
leaves_joined {Z} A front back ls ms held cut more more_too first second is =
    let value : Arc Leaf Z → Leaf = arc_value {X = Leaf} in
    let values : map value held ≡ map value ls ++ map value ms = ap (map value) is ∙ map-append value ls ms in
    let len = ap length first.items in
    let len_too = ap length second.items in
    record {
      items = ap (flat_map leaf_items) values ∙ flat_map-append leaf_items (map value ls) (map value ms)
          ∙ (λ j. first.items j ++ second.items j) ∙ cut;
      are_items = subst (AllByRecursion IsItem) cut (all_append IsItem front back first.are_items second.are_items);
      full = subst (IsFull leaf_width) (sym values)
          (full_halves (map value ls) (map value ms) (omega arith) (omega arith) first.full second.full);
    }
