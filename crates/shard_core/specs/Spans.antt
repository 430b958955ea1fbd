-- Some shards of a set, from one number to another, as one of several machines keeps them.
--     span first last               the numbers
--     in_span b first last x        the item is in one of these shards
--     kept b first last A           the items of A that are
--     span_shards b first last A    the shards
--     span_sums b first last A      what is counted and summed of each
--     span_directory b first last A     their entries
--     joined_to n Xs Ys             the first n lists of each pair, one after the other, and then those of Xs
--     Holds b first last vs xs      these lists of all shards have the items of xs that are in these shards, in any
--                                   order and more than once, and no others
--     AreKept b first last cap Xs   these are the shards of some set, and each has room
--     IsFullFrom first cap Xs e     a refusal that is not for memory names the first of these sets that is above the
--                                   cap, where the first of all has this number
use Rattle.std.specs.Prelude.{◌≡◌, ⊤, ℕ, ◌+◌, ◌-◌, Bool, not, ◌&&◌, nat_lt, List, [], ◌∷◌, ◌++◌, map, filter}
use Rattle.std.specs.Prelude.{zero, suc, Vec}
use Rattle.std.specs.declared.alloc.Global.{Global}
use Rattle.std.specs.List.{range_with_len}
use Rattle.definitions.specs.Items.{Item}
use Rattle.shard_core.specs.Shards.{shard_number, shard, shards, entry_for}
use Rattle.shard_core.specs.Directories.{sum_of}
use Rattle.shard_core.specs.declared.shard_sum.ShardSum.{ShardSum}
use Rattle.definitions.specs.Sets.{IsSet, set_of}
use Rattle.shard_core.specs.Splits.{held, HasRoom, IsAbove}
use Rattle.shard_core.specs.declared.fault.SplitFault.{SplitFault}
use Rattle.shard_core.specs.declared.fault.SplitFault.TheVariants.{TooManyItems, Memory}

abbrev pub span : ℕ → ℕ → List ℕ
span first last = range_with_len first (last + 1 - first)

abbrev pub in_span : ℕ → ℕ → ℕ → Item → Bool
in_span b first last x = not (nat_lt (shard_number b x) first) && not (nat_lt last (shard_number b x))

abbrev pub kept : ℕ → ℕ → ℕ → List Item → List Item
kept b first last A = filter (in_span b first last) A

abbrev pub span_shards : ℕ → ℕ → ℕ → List Item → List (List Item)
span_shards b first last A = map (shard b A) (span first last)

abbrev pub span_sums : ℕ → ℕ → ℕ → List Item → List ShardSum
span_sums b first last A = map (λ s. sum_of (shard b A s)) (span first last)

abbrev pub span_directory : ℕ → ℕ → ℕ → List Item → List Item
span_directory b first last A = map (λ s. entry_for s (shard b A s)) (span first last)

abbrev pub joined_to : ℕ → List (List Item) → List (List Item) → List (List Item)
joined_to zero Xs Ys = Xs
joined_to (suc n) [] Ys = []
joined_to (suc n) (X ∷ Xs) [] = X ∷ Xs
joined_to (suc n) (X ∷ Xs) (Y ∷ Ys) = (X ++ Y) ∷ joined_to n Xs Ys

abbrev pub Holds : ℕ → ℕ → ℕ → List (Vec Item Global) → List Item → Type 0
Holds b first last vs xs =
    (dealt : List Item) × (held vs ≡ shards b dealt) × (set_of dealt ≡ kept b first last (set_of xs))

abbrev pub AreKept : ℕ → ℕ → ℕ → ℕ → List (List Item) → Type 0
AreKept b first last cap Xs = HasRoom cap Xs × ((A : List Item) × IsSet A × (Xs ≡ span_shards b first last A))

abbrev pub IsFullFrom : ℕ → ℕ → List (List Item) → SplitFault → Type 0
IsFullFrom first cap Xs (TooManyItems s) = (i : ℕ) × (s ≡ first + i) × IsAbove cap Xs i
IsFullFrom first cap Xs Memory = ⊤
