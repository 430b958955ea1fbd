-- A set of any size: the shards of its items under one strategy.
--     ShardsState, no_items a name b      a checked table, a name, by how many bits it is cut, and a set of items
--     with_one s x                   the same set with this item too
--     with_all s A                   the same set with these items in place of its own
--     IsDealtFrom form text s result   what an item file's text gives: the same set with its items, or why not
--     shard_in, directory_in s X     the versions of a shard, and of the directory, of those items that a range holds
--     version_in s w X               the one of them that is meant
--     all_of Xs                      the set of the items of all these lists
--     IsSharded a name b Xs          they are the shards of such a set
--     is_there s x                   it has the item
--     IsRoomFor, IsFullFor s x       the shard of an item has fewer items than the cap, or has not
--     NoWhich b number               it is the number of no shard, and not the directory's
--     has_hello bytes                a peer's hello has come, after all that can be a selector
--     profile_in bytes               the profile of that hello; the first, if it is of none
--     told_number us s               1 if a peer has another entry of shard s, 2 if it has none of ours, and else 0
use Rattle.std.specs.Prelude.{◌≡◌, ℕ, ◌+◌, ◌<◌, ◌≤◌, ◌^◌, Bool, nat_le, List, [], ◌∷◌, length, take}
use Rattle.std.specs.Prelude.{drop, flat_map, bytes_eq, if◌then◌else◌, Result, Ok, Err, ⊤}
use Rattle.definitions.specs.Items.{Item, Range}
use Rattle.definitions.specs.Sets.{has, add_item, set_of, items_in}
use Rattle.strategy_check.specs.Checked.{Checked}
use Rattle.shard_core.specs.Shards.{max_bits, shard_number, shard, shards, directory}
use Rattle.shard_core.specs.Splits.{HasRoom, IsAbove}
use Rattle.shard_core.specs.Selectors.{IsWhich, which_number}
use Rattle.shard_core.specs.Fronts.{front_length}
use Rattle.shard_core.specs.Choices.{differs, has_shard}
use Rattle.shard_core.specs.declared.selector.Which.{Which}
use Rattle.shard_core.specs.declared.selector.Which.TheVariants.{Shard, Directory}
use Rattle.shard_core.specs.declared.unequal.Unequal.{Unequal}
use Rattle.shard_core.specs.declared.after_selector.KindsTaken.TheVariants.{Both}
use Rattle.item_files.specs.ItemFiles.{file_items}
use Rattle.item_files.specs.declared.bad_line.BadLine.{BadLine}
use Rattle.item_files.specs.declared.form.ItemForm.{ItemForm}
use Rattle.rangesync_c.specs.SetStates.{VersionState}
use Rattle.rangesync_c.specs.declared.fault.EmbeddedFault.{EmbeddedFault}
use Rattle.rangesync_c.specs.declared.fault.EmbeddedFault.TheVariants as faults

pub record ShardsState : Type 0 where
  pub accepted : Checked
  pub name : List ℕ
  pub bits : ℕ
  pub items : List Item

abbrev pub no_items : Checked → List ℕ → ℕ → ShardsState
no_items a name b = record { accepted = a; name = name; bits = b; items = [] }

abbrev pub with_one : ShardsState → Item → ShardsState
with_one s x = record { accepted = s.accepted; name = s.name; bits = s.bits; items = add_item s.items x }

abbrev pub with_all : ShardsState → List Item → ShardsState
with_all s A = record { accepted = s.accepted; name = s.name; bits = s.bits; items = A }

-- a line of the text is no item, or a shard has more items than the cap; or memory ran out
abbrev pub IsNotSplit : ItemForm → List ℕ → Checked → ℕ → EmbeddedFault → Type 0
IsNotSplit form text a b faults.BadItemLine = (bad : BadLine) × (file_items form text ≡ Err bad)
IsNotSplit form text a b faults.TooManyItems = (items : List Item) × (file_items form text ≡ Ok items)
    × ((n : ℕ) × IsAbove a.table.cap (shards b (set_of items)) n)
IsNotSplit form text a b faults.Memory = ⊤
IsNotSplit form text a b f = ⊥

-- the items of the text, each once in its shard
abbrev pub IsDealtFrom : ItemForm → List ℕ → ShardsState → Result ShardsState EmbeddedFault → Type 0
IsDealtFrom form text s (Ok t) = (items : List Item) × (file_items form text ≡ Ok items)
    × HasRoom s.accepted.table.cap (shards s.bits (set_of items)) × (t ≡ with_all s (set_of items))
IsDealtFrom form text s (Err f) = IsNotSplit form text s.accepted s.bits f

abbrev pub shard_in : ShardsState → ℕ → Range → VersionState
shard_in s n X = record { accepted = s.accepted; items = items_in (shard s.bits s.items n) X }

abbrev pub directory_in : ShardsState → Range → VersionState
directory_in s X = record { accepted = s.accepted; items = directory s.bits (items_in s.items X) }

abbrev pub version_in : ShardsState → Which → Range → VersionState
version_in s (Shard n) X = shard_in s n X
version_in s Directory X = directory_in s X

abbrev pub all_of : List (List Item) → List Item
all_of Xs = set_of (flat_map (λ X. X) Xs)

-- there is room for the directory, and each shard has as many items as the cap at most
pub record IsSharded (a : Checked) (name : List ℕ) (b : ℕ) (Xs : List (List Item)) : Type 0 where
  pub short : length name ≤ 64
  pub low : b ≤ max_bits
  pub wide : 2 ^ b ≤ a.table.cap
  pub room : HasRoom a.table.cap Xs
  pub dealt : Xs ≡ shards b (all_of Xs)

abbrev pub is_there : ShardsState → Item → Bool
is_there s x = has s.items x

-- how many items the shard has that an item belongs to
abbrev pub beside : ShardsState → Item → ℕ
beside s x = length (shard s.bits s.items (shard_number s.bits x))

abbrev pub IsRoomFor : ShardsState → Item → Type 0
IsRoomFor s x = beside s x < s.accepted.table.cap

abbrev pub IsFullFor : ShardsState → Item → Type 0
IsFullFor s x = s.accepted.table.cap ≤ beside s x

abbrev pub NoWhich : ℕ → ℕ → Type 0
NoWhich b number = (w : Which) → IsWhich b w → which_number w ≡ number → ⊥

abbrev pub has_hello : List ℕ → Bool
has_hello bytes = nat_le (front_length Both bytes + 4) (length bytes)

-- the hello of profile 2 is RRS2
abbrev pub profile_in : List ℕ → ℕ
profile_in bytes =
    if bytes_eq (take 4 (drop (front_length Both bytes) bytes)) (0x52 ∷ 0x52 ∷ 0x53 ∷ 0x32 ∷ []) then 2 else 1

abbrev pub told_number : List Unequal → ℕ → ℕ
told_number us s = if differs us s then 1 else (if has_shard us s then 0 else 2)
