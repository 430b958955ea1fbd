-- Items that are kept packed: their bytes one after another, where each ends, and of each the fingerprint of all up to
-- it.
--     joined items                  the bytes of the items, one after another
--     ends_from start items         where each ends, where the first begins at `start`
--     pieces start ends bytes       the pieces of the bytes that end at these places
--     IsPack items bytes ends sums
use Rattle.std.specs.Prelude.{◌≡◌, ℕ, ◌+◌, ◌-◌, ◌<◌, List, [], ◌∷◌, length, take, drop}
use Rattle.std.specs.List.{flat_map, AllByRecursion}
use Rattle.definitions.specs.Items.{Item, IsItem}
use Rattle.definitions.specs.Fingerprints.{Lanes}
use Rattle.store_core.specs.Sums.{running_sums}

abbrev pub joined : List Item → List ℕ
joined items = flat_map (λ x. x) items

abbrev pub ends_from : ℕ → List Item → List ℕ
ends_from start [] = []
ends_from start (x ∷ xs) = (start + length x) ∷ ends_from (start + length x) xs

abbrev pub pieces : ℕ → List ℕ → List ℕ → List Item
pieces start [] bytes = []
pieces start (end ∷ ends) bytes = take (end - start) bytes ∷ pieces end ends (drop (end - start) bytes)

-- the items are packed so, and an end fits in 16 bits
pub record IsPack (items : List Item) (bytes ends : List ℕ) (sums : List Lanes) : Type 0 where
  pub are_joined : bytes ≡ joined items
  pub are_ends : ends ≡ ends_from 0 items
  pub are_sums : sums ≡ running_sums items
  pub are_items : AllByRecursion IsItem items
  pub are_few : length items < 1024
