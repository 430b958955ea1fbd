-- What a search reads of the table that it begins with.
--     is_short_name word, has_short_bounds ms      the name of short bounds; a table that has it under `bounds`
use Rattle.std.specs.Prelude.{ℕ, Bool, false, List, codes, bytes_eq, Option, Some, None}
use Rattle.toml.specs.Data.{Data, Members, get_member, as_str}

abbrev pub is_short_name : Option (List ℕ) → Bool
is_short_name None = false
is_short_name (Some word) = bytes_eq word (codes "short")

abbrev pub is_short_value : Option Data → Bool
is_short_value None = false
is_short_value (Some d) = is_short_name (as_str d)

abbrev pub has_short_bounds : Members → Bool
has_short_bounds ms = is_short_value (get_member (codes "bounds") ms)
