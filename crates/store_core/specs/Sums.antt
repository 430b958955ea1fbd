-- Running sums of a list of items.
--     sums_after of A B        of each item of B: what stands for A and the items of B up to and with that one
--     running_sums A           of each item of A: the fingerprint of the items up to and with that one
use Rattle.std.specs.Prelude.{List, [], ◌∷◌, ◌++◌}
use Rattle.definitions.specs.Items.{Item}
use Rattle.definitions.specs.Fingerprints.{Lanes, two_lanes}

abbrev pub sums_after : {X F : Type 0} → (List X → F) → List X → List X → List F
sums_after of A [] = []
sums_after of A (x ∷ B) = of (A ++ x ∷ []) ∷ sums_after of (A ++ x ∷ []) B

abbrev pub running_sums : List Item → List Lanes
running_sums A = sums_after two_lanes.of [] A
