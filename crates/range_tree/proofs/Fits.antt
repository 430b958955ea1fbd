-- How many items leaves hold at most.
use Rattle.std.proofs.Common.{◌*◌, ◌≤◌, List, [], ◌∷◌, length, arith}
use Rattle.std.specs.List.{flat_map}
use Rattle.std.proofs.lemmas.List.{length-append}
use Rattle.range_tree.specs.Leaves.{leaf_items}
use Rattle.range_tree.specs.declared.leaf.Leaf.{Leaf}

pub leaves_most : (ls : List Leaf) → length (flat_map leaf_items ls) ≤ 64 * length ls
leaves_most [] = omega arith
leaves_most (l ∷ ls) =
    let one = l.small in
    let sum = length-append (leaf_items l) (flat_map leaf_items ls) in
    let rest = leaves_most ls in
    omega arith
