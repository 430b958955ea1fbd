-- What a fingerprint of profile 2 tells of a set's size.
--     CountsTellSizes     sets that share one have as many items
use Rattle.std.specs.Prelude.{◌≡◌, ◌<◌, ◌^◌, List, length}
use Rattle.definitions.specs.Fingerprints.{counted_lanes}
use Rattle.definitions.specs.Items.{Item}

abbrev pub CountsTellSizes : Type 0
CountsTellSizes = (A B : List Item) → length A < 2 ^ 32 → length B < 2 ^ 32 →
    counted_lanes.of A ≡ counted_lanes.of B → length A ≡ length B
