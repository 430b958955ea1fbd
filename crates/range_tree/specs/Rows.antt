-- Nodes with running counts and fingerprints beside them, and items with the numbers of their first bytes.
--     IsRow content nodes ends sums
--     AreHeads items heads
use Rattle.std.specs.Prelude.{◌≡◌, ℕ, ◌+◌, ◌<◌, List, length, take, map, get_or}
use Rattle.std.specs.List.{flat_map, AllByRecursion}
use Rattle.definitions.specs.Items.{Item, IsBytes}
use Rattle.definitions.specs.Fingerprints.{Lanes, two_lanes}
use Rattle.range_tree.specs.Heads.{head_number}

-- beside each node stand the number of items of all nodes up to it, and their fingerprint
pub record IsRow {P : Type 0} (content : P → List Item) (ps : List P) (ends : List ℕ) (sums : List Lanes) : Type 0 where
  pub as_many_ends : length ends ≡ length ps
  pub as_many_sums : length sums ≡ length ps
  pub are_ends : (i d : ℕ) → i < length ps → get_or ends i d ≡ length (flat_map content (take (i + 1) ps))
  pub are_sums : (i : ℕ) (d : Lanes) → i < length ps →
      get_or sums i d ≡ two_lanes.of (flat_map content (take (i + 1) ps))

-- beside each item stands the number of its first bytes
pub record AreHeads (xs : List Item) (heads : List ℕ) : Type 0 where
  pub are_numbers : heads ≡ map head_number xs
  pub are_bytes : AllByRecursion IsBytes xs
