-- Lists that are kept in nodes, and places in them.
use Rattle.std.specs.Prelude.{⊤, ◌≡◌, ℕ, Bool, true, false, ◌+◌, ◌<◌, ◌≤◌, List, [], ◌∷◌, take, drop, filter, length}
use Rattle.std.specs.Prelude.{slice_index_or, map}
use Rattle.std.specs.List.{flat_map, AllByRecursion, AllByRecursion-prop}
use Rattle.std.proofs.Props.{props}
use mathlib.Core.HLevel.{Unit-prop}
use Rattle.std.specs.List.Sorted.{IsPartitionPoint}
use Rattle.std.specs.Arc.{arc_value}
use Rattle.std.specs.declared.sync.Arc.{Arc}
use Rattle.definitions.specs.Items.{Item, comes_before}

-- the elements from place `from` on and before place `to`
abbrev pub span : {X : Type 0} → ℕ → ℕ → List X → List X
span from to xs = drop from (take to xs)

-- the items of shared nodes, one after the other
abbrev pub items_of : {P Z : Type 0} → (P → List Item) → List (Arc P Z) → List Item
items_of content nodes = flat_map content (map arc_value nodes)

-- the first item, where there is one
abbrev pub first_item : List Item → Item
first_item [] = []
first_item (x ∷ xs) = x

-- how many of the items come before x
abbrev pub count_before : Item → List Item → ℕ
count_before x A = length (filter (λ z. comes_before z x) A)

-- the place is one of the node at `node`, where it is the place `own`, or the end of that node
pub record IsGap {P : Type 0} (content : P → List Item) (ps : List P) (place node own : ℕ) : Type 0 where
  pub node_there : node < length ps
  pub place_is : length (flat_map content (take node ps)) + own ≡ place
  pub own_fits : (p : P) → own ≤ length (content (slice_index_or ps node p))

-- and it is not the end
pub record IsSpot {P : Type 0} (content : P → List Item) (ps : List P) (place node own : ℕ) : Type 0 where
  pub node_there : node < length ps
  pub place_is : length (flat_map content (take node ps)) + own ≡ place
  pub own_fits : (p : P) → own < length (content (slice_index_or ps node p))

-- the first i elements pass, and no later one
abbrev pub PassFirst : {X : Type 0} → (X → Bool) → List X → ℕ → Type 0
PassFirst p xs i = IsPartitionPoint (λ y. p y ≡ true) (λ y. p y ≡ false) xs i

-- where there is more than one node, each has a width of at least 32
abbrev pub IsFull : {P : Type 0} → (P → ℕ) → List P → Type 0
IsFull width [] = ⊤
IsFull width (p ∷ []) = ⊤
IsFull width (p ∷ q ∷ ps) = AllByRecursion (λ r. 32 ≤ width r) (p ∷ q ∷ ps)

pub IsFull-prop : {P : Type 0} (width : P → ℕ) (ps : List P) → IsProp (IsFull width ps)
IsFull-prop width [] = Unit-prop
IsFull-prop width (p ∷ []) = Unit-prop
IsFull-prop width (p ∷ q ∷ ps) = AllByRecursion-prop (λ r. 32 ≤ width r) (λ r. Prim.hlevel props) (p ∷ q ∷ ps)
