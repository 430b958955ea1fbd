-- A node put after others, of which the last may be short: then both become one node, or two that are wide enough. In a
-- list of which only one node may be short, all but the last are wide, and the last is unless it is the only one. So
-- the new ends of the list are wide where anything stands before them.
use Rattle.std.proofs.Common.{ℕ, ◌<◌, ◌≤◌, List, [], ◌∷◌, ◌++◌, length, arith}
use Rattle.std.proofs.lemmas.List.{length-append}
use Rattle.range_tree.specs.declared.node.Grown.{Grown}
use Rattle.range_tree.specs.declared.node.Grown.TheVariants.{One, Two}
use Rattle.range_tree.specs.Nodes.{IsFull}
use Rattle.range_tree.specs.Grown.{grown_nodes, GrewWide}
use Rattle.range_tree.proofs.Widths.{IsWide, wide_append, wide_front, wide_back, wide_from_full, full_from_wide}
use Rattle.range_tree.proofs.Groups.{last_full}

module _ {P : Type 0} (width : P → ℕ) where
  last_wide : (ps : List P) (p : P) → IsFull width (ps ++ p ∷ []) → IsWide width ps × (0 < length ps → 32 ≤ width p)
  last_wide [] p full = (tt, λ some. absurd (omega arith))
  last_wide (q ∷ ps) p full =
      let longer = length-append (q ∷ ps) (p ∷ []) in
      let all = wide_from_full width (q ∷ ps ++ p ∷ []) (omega arith) full in
      let last = wide_back width (q ∷ ps) (p ∷ []) all in
      (wide_front width (q ∷ ps) (p ∷ []) all, λ some. last.0)

  -- both are wide
  pub full_more : (ps : List P) (p q : P) → IsFull width (ps ++ p ∷ []) → 32 ≤ width p → 32 ≤ width q →
      IsFull width (ps ++ p ∷ q ∷ [])
  full_more ps p q full first second =
      full_from_wide width (ps ++ p ∷ q ∷ [])
      (wide_append width ps (p ∷ q ∷ []) (last_wide ps p full).0 (first, (second, tt)))

  -- the last one, of which more was made
  pub full_grown : (ps : List P) (p : P) (more : ℕ) (g : Grown P) → IsFull width (ps ++ p ∷ []) → width p ≤ more →
      GrewWide width more g → IsFull width (ps ++ grown_nodes g)
  full_grown ps p more (One q) full longer grew =
      let wide = last_wide ps p full in
      last_full width ps q wide.0 (λ some. let enough = wide.1 some in omega arith)
  full_grown ps p more (Two q r) full longer grew =
      full_from_wide width (ps ++ q ∷ r ∷ [])
      (wide_append width ps (q ∷ r ∷ []) (last_wide ps p full).0 (grew.0, (grew.1, tt)))
