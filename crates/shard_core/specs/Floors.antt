-- What a set that forgets keeps.
--     has_time form x     the item begins with a time of this form
--     begins_as form x    the item begins with a text of this form, which may have other digits
--     from_bound lower    the range of the items from a bound on
--     keeps f x           the item is kept: it is in the range, and has a time where items have one
--     kept_by f A         the items of A that are kept
--     leaves f x          the item stays in a file that is rewritten: it is kept, or has no time where items have one
--     left_by f A         the items of A that stay there
--     LacksAQuarter a k   of a items k are kept: at least one is not, and at least a quarter, rounded down
use Rattle.std.specs.Prelude.{ℕ, ◌==◌, ◌<◌, ◌≤◌, ◌-◌, ◌/◌, Bool, true, false, not, ◌&&◌, ◌||◌, if◌then◌else◌, nat_lt, List, [], ◌∷◌, codes, length, filter}
use Rattle.std.specs.Prelude.{Option, Some, None}
use Rattle.std.specs.Char.{is_ascii_digit}
use Rattle.definitions.specs.Items.{Item, Range, contains}
use Rattle.shard_core.specs.declared.floor.TimeForm.{TimeForm}
use Rattle.shard_core.specs.declared.floor.TimeForm.TheVariants as forms
use Rattle.shard_core.specs.declared.floor.Floor.{Floor}

-- a digit for a digit, or the same byte
abbrev pub fits : ℕ → ℕ → Bool
fits form b = if is_ascii_digit form then is_ascii_digit b else b == form

abbrev pub begins_as : List ℕ → Item → Bool
begins_as [] x = true
begins_as (form ∷ forms) [] = false
begins_as (form ∷ forms) (b ∷ x) = fits form b && begins_as forms x

abbrev pub has_time : TimeForm → Item → Bool
has_time forms.Unix32 x = not (nat_lt (length x) 4)
has_time forms.Unix64 x = not (nat_lt (length x) 8)
has_time forms.Iso x = begins_as (codes "0000-00-00T00:00:00") x

abbrev pub is_timed : Option TimeForm → Item → Bool
is_timed None x = true
is_timed (Some form) x = has_time form x

abbrev pub from_bound : List ℕ → Range
from_bound lower = record { lower = lower; upper = None }

abbrev pub keeps : Floor → Item → Bool
keeps f x = contains f.range x && is_timed f.time x

abbrev pub kept_by : Floor → List Item → List Item
kept_by f A = filter (keeps f) A

abbrev pub leaves : Floor → Item → Bool
leaves f x = keeps f x || not (is_timed f.time x)

abbrev pub left_by : Floor → List Item → List Item
left_by f A = filter (leaves f) A

abbrev pub LacksAQuarter : ℕ → ℕ → Type 0
LacksAQuarter all kept = (kept < all) × (all / 4 ≤ all - kept)
