-- The entry of a part in a directory.
use Rattle.std.proofs.Common.{◌≡◌, ℕ, List, refl}
use Rattle.definitions.specs.Items.{Item}
use Rattle.shard_core.specs.Shards.{entry, entry_for}
use Rattle.shard_core.specs.Directories.{sum_of}

pub entry_is : (s : ℕ) (X : List Item) → entry s (sum_of X).count (sum_of X).fingerprint ≡ entry_for s X
unfolding entry_for
entry_is s X = refl
