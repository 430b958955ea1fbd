-- What a branch holds.
use Rattle.std.specs.Prelude.{ℕ, ◌<◌, List, [], ◌∷◌, length}
use Rattle.std.specs.List.{flat_map}
use Rattle.std.proofs.Common.{arith}
use Rattle.std.proofs.lemmas.List.{length-append}
use Rattle.definitions.specs.Items.{Item}
use Rattle.range_tree.specs.declared.leaf.Leaf.{Leaf}
use Rattle.range_tree.specs.Leaves.{leaf_items}
use Rattle.range_tree.specs.declared.branch.Branch.{Branch}

abbrev pub branch_items : Branch → List Item
branch_items b = flat_map leaf_items b.leaves

-- each leaf has an item, and there is a leaf
leaves_have_some : (ls : List Leaf) → 0 < length ls → 0 < length (flat_map leaf_items ls)
leaves_have_some [] some = some
leaves_have_some (l ∷ ls) some = let one : 0 < length (leaf_items l) = l.some in
    rw (length-append (leaf_items l) (flat_map leaf_items ls)) (omega arith)

pub branch_has_some : (b : Branch) → 0 < length (branch_items b)
branch_has_some b = leaves_have_some b.leaves b.some

abbrev pub branch_width : Branch → ℕ
branch_width b = length b.leaves
