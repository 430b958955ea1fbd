-- What the entries of a directory say, what is no entry, and which shards two lists of entries speak of.
--     number_in x, count_in x, lanes_in x     what an entry says
--     entry_fault b x                         why an item is no entry, if it is none
--     count_for xs s                          how many items the entry of shard s says, if there is one
--     first_fault b xs                        the first item that is no entry, or has the number of one before it
--     entries_from s ws                       the entries of shards that have these counts and fingerprints, from s on
--     IsBad o e                               a refusal that is not for memory says this fault
--     differing b xs ys                       the shards that one of the two lists has an entry of
--     unequal_numbers us                      their numbers
use Rattle.std.specs.Prelude.{◌≡◌, ⊤, ℕ, ◌+◌, ◌^◌, Bool, ◌==◌, ◌||◌, nat_lt, List, [], ◌∷◌, ◌++◌, length, map, take}
use Rattle.std.specs.Prelude.{drop}
use Rattle.std.specs.Prelude.{filter, Option, Some, None, is_some, if◌then◌else◌}
use Rattle.std.specs.Option.{option_or}
use Rattle.std.specs.Int.{w16, w32, from_be_bytes}
use Rattle.definitions.specs.Items.{Item}
use Rattle.definitions.specs.Fingerprints.{Lanes, two_lanes}
use Rattle.definitions.specs.Wire.{lanes_read}
use Rattle.shard_core.specs.declared.entry.BadEntry.{BadEntry}
use Rattle.shard_core.specs.declared.entry.BadEntry.TheVariants.{WrongLength, NoSuchShard, TooManyItems, Twice}
use Rattle.shard_core.specs.declared.fault.DirectoryFault.{DirectoryFault}
use Rattle.shard_core.specs.declared.fault.DirectoryFault.TheVariants.{Bad, Memory}
use Rattle.shard_core.specs.declared.shard_sum.ShardSum.{ShardSum}
use Rattle.shard_core.specs.declared.unequal.Unequal.{Unequal}
use Rattle.shard_core.specs.Shards.{max_count, numbers, shard, entry}

-- ---- one entry

abbrev pub number_in : Item → ℕ
number_in x = from_be_bytes w16 (take 2 x)

abbrev pub count_in : Item → ℕ
count_in x = from_be_bytes w32 (take 4 (drop 2 x))

abbrev pub lanes_in : Item → Lanes
lanes_in x = lanes_read (drop 6 x)

abbrev pub sum_in : Item → ShardSum
sum_in x = record { count = count_in x; fingerprint = lanes_in x }

abbrev pub number_fault : ℕ → ℕ → ℕ → Option BadEntry
number_fault b s count =
    if nat_lt s (2 ^ b) then (if nat_lt max_count count then Some TooManyItems else None) else Some NoSuchShard

-- the length is tested first, then the number, then the count
abbrev pub entry_fault : ℕ → Item → Option BadEntry
entry_fault b x = if length x == 38 then number_fault b (number_in x) (count_in x) else Some WrongLength

-- ---- lists of entries

abbrev pub count_for : List Item → ℕ → Option ℕ
count_for [] s = None
count_for (x ∷ xs) s = if number_in x == s then Some (count_in x) else count_for xs s

abbrev pub fault_after : ℕ → List Item → Item → Option BadEntry
fault_after b seen x =
    option_or (entry_fault b x) (if is_some (count_for seen (number_in x)) then Some Twice else None)

-- the first fault of the entries xs, which come after the entries seen
abbrev pub fault_from : ℕ → List Item → List Item → Option BadEntry
fault_from b seen [] = None
fault_from b seen (x ∷ xs) = option_or (fault_after b seen x) (fault_from b (seen ++ x ∷ []) xs)

abbrev pub first_fault : ℕ → List Item → Option BadEntry
first_fault b xs = fault_from b [] xs

abbrev pub IsBad : Option BadEntry → DirectoryFault → Type 0
IsBad o (Bad f) = o ≡ Some f
IsBad o Memory = ⊤

-- ---- the entries of all shards

abbrev pub sum_of : List Item → ShardSum
sum_of X = record { count = length X; fingerprint = two_lanes.of X }

-- what is counted and summed of each shard of A
abbrev pub sums_of : ℕ → List Item → List ShardSum
sums_of b A = map (λ s. sum_of (shard b A s)) (numbers b)

abbrev pub entries_from : ℕ → List ShardSum → List Item
entries_from s [] = []
entries_from s (w ∷ ws) = entry s w.count w.fingerprint ∷ entries_from (s + 1) ws

-- ---- two lists of entries

-- what the two lists say of shard s
abbrev pub told_of : List Item → List Item → ℕ → Unequal
told_of xs ys s = record { number = s; ours = count_for xs s; theirs = count_for ys s }

abbrev pub is_told : Unequal → Bool
is_told u = is_some u.ours || is_some u.theirs

-- rising
abbrev pub differing : ℕ → List Item → List Item → List Unequal
differing b xs ys = filter is_told (map (told_of xs ys) (numbers b))

abbrev pub unequal_numbers : List Unequal → List ℕ
unequal_numbers us = map (λ (u : Unequal). u.number) us
