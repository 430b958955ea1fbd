-- Which items a server forgets, by its words.
--     seconds_in text                     the seconds of a duration, as `90s`, `10m`, `36h` or `7d`, of 1 to 315,360,000
--     form_in text                        the form of times that a text names
--     rule_asked form below newest time   what the words ask for, or why it is not done
use Rattle.std.specs.Prelude.{ℕ, ◌+◌, ◌*◌, ◌==◌, nat_lt, List, [], length, codes, Bool, true, false, ◌&&◌, bytes_eq}
use Rattle.std.specs.Prelude.{if◌then◌else◌, Option, Some, None, Result, Ok, Err}
use Rattle.std.specs.List.{position_or_len, before_first, after_first}
use Rattle.std.specs.Str.Parse.{digits_value}
use Rattle.definitions.specs.Items.{Item}
use Rattle.item_files.specs.ItemFiles.{spelled}
use Rattle.item_files.specs.declared.form.ItemForm.{ItemForm}
use Rattle.item_files.specs.declared.form.ItemForm.TheVariants.{Hex, Text, Hash}
use Rattle.shard_core.specs.declared.floor.TimeForm.{TimeForm}
use Rattle.shard_core.specs.declared.floor.TimeForm.TheVariants.{Unix32, Unix64, Iso}
use Rattle.settings_core.specs.ShardWords.{are_digits}
use Rattle.settings_core.specs.declared.floor_words.Newest.{Newest}
use Rattle.settings_core.specs.declared.floor_words.FloorRule.{FloorRule}
use Rattle.settings_core.specs.declared.floor_words.FloorFlaw.{FloorFlaw}
use Rattle.settings_core.specs.declared.floor_words.FloorFlaw.TheVariants as flaws

-- ---- the text of `--newest`

-- what stands before a byte that ends the text, and is there once
abbrev pub count_before : ℕ → List ℕ → Option (List ℕ)
count_before unit text =
    if nat_lt (position_or_len (λ b. b == unit) text) (length text)
    && (length (after_first (λ b. b == unit) text) == 0)
    then Some (before_first (λ b. b == unit) text) else None

-- ten years of 365 days
abbrev pub max_newest : ℕ
max_newest = 315360000

abbrev pub number_in : List ℕ → Option ℕ
number_in text =
    if are_digits text && nat_lt (digits_value 10 text) (max_newest + 1) then Some (digits_value 10 text) else None

abbrev pub spanned : ℕ → Option ℕ
spanned seconds = if nat_lt 0 seconds && nat_lt seconds (max_newest + 1) then Some seconds else None

abbrev pub times : ℕ → Option ℕ → Option ℕ
times unit None = None
times unit (Some count) = spanned (count * unit)

-- so many units, if there is a count of them; else the other
abbrev pub counted : ℕ → Option (List ℕ) → Option ℕ → Option ℕ
counted unit None other = other
counted unit (Some digits) other = times unit (number_in digits)

-- seconds, minutes, hours, days
abbrev pub seconds_in : List ℕ → Option ℕ
seconds_in text =
    counted 1 (count_before 115 text) (counted 60 (count_before 109 text)
    (counted 3600 (count_before 104 text) (counted 86400 (count_before 100 text) None)))

-- ---- the text of `--time-form`

abbrev pub form_in : List ℕ → Option TimeForm
form_in text =
    if bytes_eq text (codes "unix32") then Some Unix32
    else if bytes_eq text (codes "unix64") then Some Unix64
    else if bytes_eq text (codes "iso") then Some Iso
    else None

-- numbers are in items of hex, dates in items of text
abbrev pub goes_with : ItemForm → TimeForm → Bool
goes_with Hex Unix32 = true
goes_with Hex Unix64 = true
goes_with Text Iso = true
goes_with form time = false

-- ---- the words

abbrev pub bound_found : Option Item → Result (List ℕ) FloorFlaw
bound_found None = Err flaws.NotBelow
bound_found (Some x) = Ok x

-- the start, where no item is given
abbrev pub bound_asked : ItemForm → Option (List ℕ) → Result (List ℕ) FloorFlaw
bound_asked form None = Ok []
bound_asked form (Some text) = bound_found (spelled form text)

abbrev pub newest_found : ItemForm → Option ℕ → Option TimeForm → Result (Option Newest) FloorFlaw
newest_found form None time = Err flaws.Newest
newest_found form (Some seconds) None = Err flaws.TimeForm
newest_found form (Some seconds) (Some time) =
    if goes_with form time then Ok (Some (record { seconds = seconds; time = time })) else Err flaws.ItemForm

abbrev pub newest_asked : ItemForm → Option (List ℕ) → Option (List ℕ) → Result (Option Newest) FloorFlaw
newest_asked form None None = Ok None
newest_asked form None (Some time) = Err flaws.Alone
newest_asked form (Some newest) None = Err flaws.Alone
newest_asked form (Some newest) (Some time) = newest_found form (seconds_in newest) (form_in time)

abbrev pub ruled : Result (List ℕ) FloorFlaw → Result (Option Newest) FloorFlaw → Result FloorRule FloorFlaw
ruled (Err flaw) newest = Err flaw
ruled (Ok below) (Err flaw) = Err flaw
ruled (Ok below) (Ok newest) = Ok (record { not_below = below; newest = newest })

abbrev pub rule_asked : ItemForm → Option (List ℕ) → Option (List ℕ) → Option (List ℕ) → Result FloorRule FloorFlaw
rule_asked form below newest time = ruled (bound_asked form below) (newest_asked form newest time)
