-- A set that is cut into shards by the digests of its items, and the directory of such a set.
--     max_bits, max_count                     there are 2 ^ b shards, and each has room for so many items
--     shard_number b x, numbers b             the shard of an item; the numbers of all shards
--     shard b A s, shards b A                 the items of A in shard s; all shards
--     entry s count f, entry_for s X          an entry of a directory, 38 bytes
--     directory b A                           the entries of all shards, which are a set
--     entries_differ b A B s                  the two directories differ at shard s
use Rattle.std.specs.Prelude.{ℕ, ◌-◌, ◌/◌, ◌^◌, Bool, not, ◌==◌, List, ◌++◌, length, map, take, filter}
use Rattle.std.specs.List.{range_with_len}
use Rattle.std.specs.Int.{w16, w32, to_be_bytes, from_be_bytes}
use Rattle.sha2.specs.Sha256.{sha256}
use Rattle.definitions.specs.Items.{Item, same_item}
use Rattle.definitions.specs.Fingerprints.{Lanes, two_lanes}
use Rattle.definitions.specs.Wire.{lanes_text}

-- b is at most this
abbrev pub max_bits : ℕ
max_bits = 12

-- the most items that an entry may say
abbrev pub max_count : ℕ
max_count = 65536

-- the first b bits of the item's digest, as a number
unfoldable pub shard_number : ℕ → Item → ℕ
shard_number b x = from_be_bytes w16 (take 2 (sha256 x)) / 2 ^ (16 - b)

-- from 0 up to 2 ^ b - 1
abbrev pub numbers : ℕ → List ℕ
numbers b = range_with_len 0 (2 ^ b)

abbrev pub lies_in : ℕ → ℕ → Item → Bool
lies_in b s x = shard_number b x == s

-- the items of A in shard s
abbrev pub shard : ℕ → List Item → ℕ → List Item
shard b A s = filter (lies_in b s) A

abbrev pub shards : ℕ → List Item → List (List Item)
shards b A = map (shard b A) (numbers b)

-- the shard's number in 2 bytes, its count in 4, and its fingerprint in 32, each with the highest byte first
abbrev pub entry : ℕ → ℕ → Lanes → Item
entry s count f = to_be_bytes w16 s ++ (to_be_bytes w32 count ++ lanes_text f)

-- the entry of shard s, if it has the items of X
unfoldable pub entry_for : ℕ → List Item → Item
entry_for s X = entry s (length X) (two_lanes.of X)

abbrev pub directory : ℕ → List Item → List Item
directory b A = map (λ s. entry_for s (shard b A s)) (numbers b)

abbrev pub entries_differ : ℕ → List Item → List Item → ℕ → Bool
entries_differ b A B s = not (same_item (entry_for s (shard b A s)) (entry_for s (shard b B s)))
