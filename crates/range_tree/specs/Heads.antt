-- The first bytes of an item as a number, by which most items are told apart.
--     head_number x     the number of the first 8 bytes, the highest first, with zeros after a shorter item
use Rattle.std.specs.Prelude.{ℕ, zero, suc, ◌+◌, ◌*◌, List, [], ◌∷◌}
use Rattle.definitions.specs.Items.{Item}

-- the number of so many bytes, after those of which the number is known
abbrev pub number_from : ℕ → ℕ → List ℕ → ℕ
number_from zero known bytes = known
number_from (suc left) known [] = number_from left (known * 256) []
number_from (suc left) known (b ∷ bytes) = number_from left (known * 256 + b) bytes

abbrev pub head_number : Item → ℕ
head_number x = number_from 8 0 x
