-- Keys of a strategy that say nothing.
--     is_key row k            whether a strategy has such a key above the rows, or in one
--     stray_in row ms         the first key of a table that says nothing
--     stray_in_rows n ds      the first one of these rows, of which the first has the number n, and where it stands
--     stray_in_table ms       the first one of a strategy: above the rows, else in them
--     rows_at ms              the array of the rows
use Rattle.std.specs.Prelude.{ℕ, ◌+◌, Bool, ◌||◌, if◌then◌else◌, List, codes, bytes_eq, Option, Some, None}
use Rattle.std.specs.Prelude.{option_and_then}
use Rattle.toml.specs.Data.{Data, Items, no_items, item, Members, no_members, member, get_member, as_array, as_table}
use Rattle.item_files.specs.declared.stray_keys.StrayKey.{StrayKey}

abbrev pub is_key : Option ℕ → List ℕ → Bool
is_key None k = bytes_eq k (codes "bounds") || bytes_eq k (codes "cap") || bytes_eq k (codes "limit")
    || bytes_eq k (codes "opening") || bytes_eq k (codes "rounds") || bytes_eq k (codes "row")
is_key (Some n) k = bytes_eq k (codes "list") || bytes_eq k (codes "peel") || bytes_eq k (codes "split")
    || bytes_eq k (codes "upto")

abbrev pub stray_in : Option ℕ → Members → Option (List ℕ)
stray_in row no_members = None
stray_in row (member k d ms) = if is_key row k then stray_in row ms else Some k

abbrev pub stray_in_row : ℕ → Data → Option (List ℕ)
stray_in_row n d = option_and_then (stray_in (Some n)) (as_table d)

-- the row in which a key stands, if it is in one, and the key
abbrev pub Told : Type 0
Told = Option ℕ × List ℕ

abbrev pub told : StrayKey → Told
told stray = (stray.row, stray.key.now)

-- this key, else a later one
abbrev pub stray_or : Option ℕ → Option (List ℕ) → Option Told → Option Told
stray_or row (Some k) later = Some (row, k)
stray_or row None later = later

abbrev pub stray_in_rows : ℕ → Items → Option Told
stray_in_rows n no_items = None
stray_in_rows n (item d ds) = stray_or (Some n) (stray_in_row n d) (stray_in_rows (n + 1) ds)

abbrev pub rows_at : Members → Option Items
rows_at ms = option_and_then as_array (get_member (codes "row") ms)

abbrev pub stray_in_table : Members → Option Told
stray_in_table ms = stray_or None (stray_in None ms) (option_and_then (stray_in_rows 1) (rows_at ms))
