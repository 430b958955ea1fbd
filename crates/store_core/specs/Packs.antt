-- Items that are kept packed: their bytes one after another, and where each item ends.
--     piece from to bytes              the bytes from one place on and before another
--     pieces start ends bytes          the items that end at these places, where the first begins at `start`
--     IsRising start ends last         each item has 1 to 64 bytes, and the last ends at `last`
use Rattle.std.specs.Prelude.{◌≡◌, ℕ, ◌+◌, ◌-◌, ◌<◌, ◌≤◌, List, [], ◌∷◌, take, drop}
use Rattle.definitions.specs.Items.{Item}

abbrev pub piece : ℕ → ℕ → List ℕ → Item
piece from to bytes = take (to - from) (drop from bytes)

abbrev pub pieces : ℕ → List ℕ → List ℕ → List Item
pieces start [] bytes = []
pieces start (end ∷ ends) bytes = piece start end bytes ∷ pieces end ends bytes

abbrev pub IsRising : ℕ → List ℕ → ℕ → Type 0
IsRising start [] last = start ≡ last
IsRising start (end ∷ ends) last = (start < end) × (end ≤ start + 64) × IsRising end ends last
