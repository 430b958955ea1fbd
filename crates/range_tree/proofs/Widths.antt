-- Lists of nodes each of which is wide enough.
use Rattle.std.proofs.Common.{◌≡◌, ℕ, zero, suc, ◌+◌, ◌*◌, ◌<◌, ◌≤◌, List, [], ◌∷◌, ◌++◌, take, drop, map, length}
use Rattle.std.proofs.Common.{get_or, sym, ap, subst, ◌∙◌, arith}
use Rattle.std.specs.List.{flat_map, AllByRecursion}
use Rattle.std.proofs.lemmas.List.{length-append}
use Rattle.range_tree.specs.declared.node.Grown.{Grown}
use Rattle.range_tree.specs.declared.node.Grown.TheVariants.{One, Two}
use Rattle.range_tree.specs.declared.leaf.Leaf.{Leaf}
use Rattle.range_tree.specs.declared.branch.Branch.{Branch}
use Rattle.range_tree.specs.Nodes.{IsFull}
use Rattle.range_tree.specs.Grown.{grown_nodes, GrewWide}
use Rattle.range_tree.specs.Leaves.{leaf_items, leaf_width}
use Rattle.range_tree.specs.Branches.{branch_items, branch_width}
use Rattle.range_tree.specs.declared.tree.Tree.{Tree}
use Rattle.range_tree.specs.Trees.{tree_items}
use Rattle.range_tree.proofs.Places.{map_take, map_drop}

module _ {P : Type 0} (width : P → ℕ) where
  abbrev pub IsWide : List P → Type 0
  IsWide ps = AllByRecursion (λ p. 32 ≤ width p) ps

  wide_take : (n : ℕ) (ps : List P) → IsWide ps → IsWide (take n ps)
  wide_take zero ps all = tt
  wide_take (suc n) [] all = tt
  wide_take (suc n) (p ∷ ps) all = (all.0, wide_take n ps all.1)

  wide_drop : (n : ℕ) (ps : List P) → IsWide ps → IsWide (drop n ps)
  wide_drop zero ps all = all
  wide_drop (suc n) [] all = tt
  wide_drop (suc n) (p ∷ ps) all = wide_drop n ps all.1

  pub wide_append : (ps qs : List P) → IsWide ps → IsWide qs → IsWide (ps ++ qs)
  wide_append [] qs first second = second
  wide_append (p ∷ ps) qs first second = (first.0, wide_append ps qs first.1 second)

  pub wide_front : (ps qs : List P) → IsWide (ps ++ qs) → IsWide ps
  wide_front [] qs all = tt
  wide_front (p ∷ ps) qs all = (all.0, wide_front ps qs all.1)

  pub wide_back : (ps qs : List P) → IsWide (ps ++ qs) → IsWide qs
  wide_back [] qs all = all
  wide_back (p ∷ ps) qs all = wide_back ps qs all.1

  wide_get : (ps : List P) (i : ℕ) (d : P) → i < length ps → IsWide ps → 32 ≤ width (get_or ps i d)
  wide_get [] i d low all = absurd (omega arith)
  wide_get (p ∷ ps) zero d low all = all.0
  wide_get (p ∷ ps) (suc i) d low all = wide_get ps i d (omega arith) all.1

  pub full_from_wide : (ps : List P) → IsWide ps → IsFull width ps
  full_from_wide [] all = tt
  full_from_wide (p ∷ []) all = tt
  full_from_wide (p ∷ q ∷ ps) all = all

  pub full_alone : (ps : List P) → length ps ≡ 1 → IsFull width ps
  full_alone [] one = tt
  full_alone (p ∷ []) one = tt
  full_alone (p ∷ q ∷ ps) one = absurd (omega arith)

  pub wide_from_full : (ps : List P) → 1 < length ps → IsFull width ps → IsWide ps
  wide_from_full [] more full = absurd (omega arith)
  wide_from_full (p ∷ []) more full = absurd (omega arith)
  wide_from_full (p ∷ q ∷ ps) more full = full

  pub grew_narrower : (g : Grown P) (old less : ℕ) → less ≤ old → GrewWide width old g → GrewWide width less g
  grew_narrower (One p) old less low grew = omega arith
  grew_narrower (Two p q) old less low grew = grew

  grown_wide : (g : Grown P) (old : ℕ) → 32 ≤ old → GrewWide width old g → IsWide (grown_nodes g)
  grown_wide (One p) old wide grew = (omega arith, tt)
  grown_wide (Two p q) old wide grew = (grew.0, (grew.1, tt))

  grown_alone : (g : Grown P) (old : ℕ) → GrewWide width old g → IsFull width (grown_nodes g ++ [])
  grown_alone (One p) old grew = tt
  grown_alone (Two p q) old grew = (grew.0, (grew.1, tt))

  -- where one node grew
  pub grown_full : (ps : List P) (i : ℕ) (d : P) (g : Grown P) → i < length ps → IsFull width ps →
      GrewWide width (width (get_or ps i d)) g → IsFull width (take i ps ++ grown_nodes g ++ drop (i + 1) ps)
  grown_full [] i d g low full grew = absurd (omega arith)
  grown_full (p ∷ []) zero d g low full grew = grown_alone g (width p) grew
  grown_full (p ∷ []) (suc i) d g low full grew = absurd (omega arith)
  grown_full (p ∷ q ∷ ps) i d g low full grew =
      full_from_wide (take i (p ∷ q ∷ ps) ++ grown_nodes g ++ drop (i + 1) (p ∷ q ∷ ps))
      (wide_append (take i (p ∷ q ∷ ps) ++ grown_nodes g) (drop (i + 1) (p ∷ q ∷ ps))
      (wide_append (take i (p ∷ q ∷ ps)) (grown_nodes g) (wide_take i (p ∷ q ∷ ps) full)
      (grown_wide g (width (get_or (p ∷ q ∷ ps) i d)) (wide_get (p ∷ q ∷ ps) i d low full) grew))
      (wide_drop (i + 1) (p ∷ q ∷ ps) full))

  -- both parts of nodes that are known by their values
  pub parts_full : {T : Type 0} (v : T → P) (n : ℕ) (xs : List T) (ps : List P) → map v xs ≡ ps → 1 < length ps →
      IsFull width ps → IsFull width (map v (take n xs)) × IsFull width (map v (drop n xs))
  parts_full v n xs ps values more full =
      let wide = wide_from_full ps more full in
      let front = full_from_wide (take n ps) (wide_take n ps wide) in
      let back = full_from_wide (drop n ps) (wide_drop n ps wide) in (
        subst (IsFull width) (sym (map_take v n xs ∙ ap (take n) values)) front,
        subst (IsFull width) (sym (map_drop v n xs ∙ ap (drop n) values)) back,
      )

-- ---- how many items wide nodes hold at least

wide_leaves : (ls : List Leaf) → AllByRecursion (λ l. 32 ≤ leaf_width l) ls →
    32 * length ls ≤ length (flat_map leaf_items ls)
wide_leaves [] all = omega arith
wide_leaves (l ∷ ls) all =
    let one = all.0 in
    let sum = length-append (leaf_items l) (flat_map leaf_items ls) in
    let rest = wide_leaves ls all.1 in
    omega arith

wide_branch : (b : Branch) → 32 ≤ branch_width b → 1024 ≤ length (branch_items b)
wide_branch b wide =
    let more : 1 < length b.leaves = omega arith in
    let most = wide_leaves b.leaves (wide_from_full leaf_width b.leaves more b.full) in
    omega arith

wide_branches : (bs : List Branch) → AllByRecursion (λ b. 32 ≤ branch_width b) bs →
    1024 * length bs ≤ length (flat_map branch_items bs)
wide_branches [] all = omega arith
wide_branches (b ∷ bs) all =
    let one = wide_branch b all.0 in
    let sum = length-append (branch_items b) (flat_map branch_items bs) in
    let rest = wide_branches bs all.1 in
    omega arith

few_branches : (bs : List Branch) → IsFull branch_width bs → length (flat_map branch_items bs) ≤ 65536 → length bs ≤ 64
few_branches [] full low = omega arith
few_branches (b ∷ []) full low = omega arith
few_branches (b ∷ c ∷ bs) full low = let most = wide_branches (b ∷ c ∷ bs) full in omega arith

pub few_in_tree : (t : Tree) → length (tree_items t) ≤ 65536 → length t.branches ≤ 64
few_in_tree t low = few_branches t.branches t.full low
