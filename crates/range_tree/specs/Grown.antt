-- What a node with one more item became.
use Rattle.std.specs.Prelude.{ℕ, ◌≤◌, List, [], ◌∷◌}
use Rattle.range_tree.specs.declared.node.Grown.{Grown}
use Rattle.range_tree.specs.declared.node.Grown.TheVariants.{One, Two}

abbrev pub grown_nodes : {P : Type 0} → Grown P → List P
grown_nodes (One p) = p ∷ []
grown_nodes (Two p q) = p ∷ q ∷ []

-- one node is no narrower than before, and each of two has a width of at least 32
abbrev pub GrewWide : {P : Type 0} → (P → ℕ) → ℕ → Grown P → Type 0
GrewWide width old (One p) = old ≤ width p
GrewWide width old (Two p q) = (32 ≤ width p) × (32 ≤ width q)
