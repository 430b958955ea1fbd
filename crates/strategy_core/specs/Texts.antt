-- What a TOML table says of a strategy, and what a text does. The tests stand in the order in which they are made: the
-- first that fails is the fault.
--     whole f                    a fault that is in no row
--     in_row n said              what is said of the row of this number
--     table_in members           the strategy of a table, or the fault, and the row in which it is
--     IsTextOf text said         the text is TOML, and its table says this
use Rattle.std.specs.Prelude.{◌≡◌, ℕ, suc, ◌+◌, ◌-◌, ℤ, pos, negsuc, codes, Bool, true, false, ◌&&◌, nat_lt, nat_le}
use Rattle.std.specs.Prelude.{nat_eq}
use Rattle.std.specs.Prelude.{List, [], ◌∷◌, length, map, slice_index, Option, Some, None, Result, Ok, Err, IsUtf8}
use Rattle.std.specs.Prelude.{bytes_eq, if◌then◌else◌, is_some}
use Rattle.toml.specs.Parse.{parse_document}
use Rattle.toml.specs.Data.{Data, Items, no_items, item, Members, get_member, as_integer, as_bool, as_str, as_array}
use Rattle.toml.specs.Data.{as_table}
use Rattle.definitions.specs.Strategies.{Table, Row, Act, List_items, Split, Peel, Bounds, At_items, Short}
use Rattle.definitions.specs.Strategies.{Opening, Open_sum, Open_split}
use Rattle.strategy_core.specs.declared.fault.StrategyFault.{StrategyFault}
use Rattle.strategy_core.specs.declared.fault.StrategyFault.TheVariants.{Missing, BadNumber, RowOrder, RowAction}
use Rattle.strategy_core.specs.declared.fault.StrategyFault.TheVariants.{CapMismatch, BadBounds, BadOpening}
use Rattle.strategy_core.specs.declared.fault.StrategyFlaw.{StrategyFlaw}
use Rattle.strategy_core.specs.declared.field.Field.{Field}
use Rattle.strategy_core.specs.declared.field.Field.TheVariants as fields

infixl 10 ◌>>=◌
abbrev pub ◌>>=◌ : {A B : Type 0} → Result A StrategyFlaw → (A → Result B StrategyFlaw) → Result B StrategyFlaw
(Ok x) >>= f = f x
(Err e) >>= f = Err e

abbrev pub whole : StrategyFault → StrategyFlaw
whole f = record { fault = f; row = None }

abbrev pub in_row : {A : Type 0} → ℕ → Result A StrategyFlaw → Result A StrategyFlaw
in_row n (Ok x) = Ok x
in_row n (Err flaw) = Err (record { fault = flaw.fault; row = Some n })

-- the value that is there, else this fault
abbrev pub present : {A : Type 0} → StrategyFault → Option A → Result A StrategyFlaw
present fault None = Err (whole fault)
present fault (Some x) = Ok x

-- the value, if the test holds, else this fault
abbrev pub provided : {A : Type 0} → Bool → StrategyFault → A → Result A StrategyFlaw
provided true fault x = Ok x
provided false fault x = Err (whole fault)

-- ---- numbers

abbrev pub key_of : Field → List ℕ
key_of fields.Cap = codes "cap"
key_of fields.Limit = codes "limit"
key_of fields.Rounds = codes "rounds"
key_of fields.Row = codes "row"
key_of fields.Upto = codes "upto"
key_of fields.Split = codes "split"
key_of fields.Peel = codes "peel"

abbrev pub member_at : Members → Field → Result Data StrategyFlaw
member_at ms field = present (Missing field) (get_member (key_of field) ms)

abbrev pub in_span : StrategyFault → ℕ → ℕ → ℤ → Result ℕ StrategyFlaw
in_span fault low high (pos n) = provided (nat_le low n && nat_le n high) fault n
in_span fault low high (negsuc n) = Err (whole fault)

-- a whole number of low to high, under this key
abbrev pub number_in : Field → ℕ → ℕ → Data → Result ℕ StrategyFlaw
number_in field low high d =
    present (BadNumber field low high) (as_integer d) >>= in_span (BadNumber field low high) low high

abbrev pub number_at : Members → Field → ℕ → ℕ → Result ℕ StrategyFlaw
number_at ms field low high = member_at ms field >>= number_in field low high

-- ---- rows

abbrev pub weights_in : Items → Result (List ℕ) StrategyFlaw
weights_in no_items = Ok []
weights_in (item d ds) = number_in fields.Split 1 1024 d >>= λ w. weights_in ds >>= λ ws. Ok (w ∷ ws)

abbrev pub items_count : Items → ℕ
items_count no_items = 0
items_count (item d ds) = suc (items_count ds)

abbrev pub array_in : Data → Result Items StrategyFlaw
array_in d = present RowAction (as_array d)

-- an array of 2 to 64 values
abbrev pub few_in : Data → Result Items StrategyFlaw
few_in d = array_in d >>= λ ds. provided (nat_le 2 (items_count ds) && nat_le (items_count ds) 64) RowAction ds

-- an array of 2 to 64 weights
abbrev pub split_in : Data → Result Act StrategyFlaw
split_in d = few_in d >>= λ ds. weights_in ds >>= λ weights. Ok (Split weights)

-- the word true
abbrev pub list_in : Data → Result Act StrategyFlaw
list_in d = present RowAction (as_bool d) >>= λ yes. provided yes RowAction List_items

-- so many off the front
abbrev pub peel_in : Data → Result Act StrategyFlaw
peel_in d = number_in fields.Peel 1 65536 d >>= λ front. Ok (Peel front)

-- what is under the keys list, split and peel: exactly one of them
abbrev pub act_under : Option Data → Option Data → Option Data → Result Act StrategyFlaw
act_under (Some list) None None = list_in list
act_under None (Some split) None = split_in split
act_under None None (Some peel) = peel_in peel
act_under None None None = Err (whole RowAction)
act_under (Some list) (Some split) peel = Err (whole RowAction)
act_under (Some list) None (Some peel) = Err (whole RowAction)
act_under None (Some split) (Some peel) = Err (whole RowAction)

abbrev pub is_above : ℕ → Option ℕ → Bool
is_above n None = true
is_above n (Some before) = nat_lt before n

-- the upto of a row after one of this upto
abbrev pub upto_in : ℕ → Option ℕ → Members → Result ℕ StrategyFlaw
upto_in cap before ms = number_at ms fields.Upto 0 cap >>= λ upto. provided (is_above upto before) RowOrder upto

abbrev pub act_at : Members → Result Act StrategyFlaw
act_at ms = act_under (get_member (codes "list") ms) (get_member (codes "split") ms) (get_member (codes "peel") ms)

abbrev pub row_at : ℕ → Option ℕ → Members → Result Row StrategyFlaw
row_at cap before ms = do
  upto ← upto_in cap before ms
  act ← act_at ms
  Ok (record { upto = upto; act = act })

-- a table that is a row after one of this upto
abbrev pub row_in : ℕ → Option ℕ → Data → Result Row StrategyFlaw
row_in cap before d = present RowAction (as_table d) >>= row_at cap before

-- the rows after one of this upto, of which the first has the number n
abbrev pub rows_in : ℕ → Option ℕ → ℕ → Items → Result (List Row) StrategyFlaw
rows_in cap before n no_items = Ok []
rows_in cap before n (item d ds) = in_row n (row_in cap before d)
    >>= λ row. rows_in cap (Some row.upto) (n + 1) ds >>= λ rows. Ok (row ∷ rows)

-- an array of at least one
abbrev pub entries_at : Members → Result Items StrategyFlaw
entries_at ms =
    member_at ms fields.Row >>= λ d. array_in d >>= λ ds. provided (nat_lt 0 (items_count ds)) (Missing fields.Row) ds

abbrev pub last_upto : List Row → ℕ
last_upto rows = slice_index (map (λ row. row.upto) rows) (length rows - 1)

-- ---- bounds

-- the word items or short
abbrev pub bounds_named : List ℕ → Result Bounds StrategyFlaw
bounds_named word =
    if bytes_eq word (codes "items") then Ok At_items
    else if bytes_eq word (codes "short") then Ok Short
    else Err (whole BadBounds)

abbrev pub bounds_in : Data → Result Bounds StrategyFlaw
bounds_in d = present BadBounds (as_str d) >>= bounds_named

-- own items where nothing is said
abbrev pub bounds_under : Option Data → Result Bounds StrategyFlaw
bounds_under None = Ok At_items
bounds_under (Some d) = bounds_in d

abbrev pub bounds_at : Members → Result Bounds StrategyFlaw
bounds_at ms = bounds_under (get_member (codes "bounds") ms)

-- ---- opening

-- the word sum or split
abbrev pub opening_named : List ℕ → Result Opening StrategyFlaw
opening_named word =
    if bytes_eq word (codes "sum") then Ok Open_sum
    else if bytes_eq word (codes "split") then Ok Open_split
    else Err (whole BadOpening)

abbrev pub opening_in : Data → Result Opening StrategyFlaw
opening_in d = present BadOpening (as_str d) >>= opening_named

-- one Sum of everything where nothing is said
abbrev pub opening_under : Option Data → Result Opening StrategyFlaw
opening_under None = Ok Open_sum
opening_under (Some d) = opening_in d

abbrev pub opening_at : Members → Result Opening StrategyFlaw
opening_at ms = opening_under (get_member (codes "opening") ms)

-- ---- what belongs above the rows

-- a row that has this key, which says nothing there
abbrev pub row_says : List ℕ → Option Members → Bool
row_says key None = false
row_says key (Some ms) = is_some (get_member key ms)

-- the first of these rows that has it, of which the first has the number n
abbrev pub row_with : List ℕ → ℕ → Items → Option ℕ
row_with key n no_items = None
row_with key n (item d ds) = if row_says key (as_table d) then Some n else row_with key (n + 1) ds

-- this value, if no row has the key, else this fault
abbrev pub apart_from : {A : Type 0} → Option ℕ → StrategyFault → A → Result A StrategyFlaw
apart_from None fault x = Ok x
apart_from (Some n) fault x = in_row n (Err (whole fault))

-- ---- a strategy

-- the array of rows, if what stands in front of them is right; no memory is needed for this
abbrev pub rows_at : Members → Result Items StrategyFlaw
rows_at ms = do
  cap ← number_at ms fields.Cap 1 65536
  limit ← number_at ms fields.Limit 0 cap
  rounds ← number_at ms fields.Rounds 0 255
  entries_at ms

abbrev pub table_in : Members → Result Table StrategyFlaw
table_in ms = do
  cap ← number_at ms fields.Cap 1 65536
  limit ← number_at ms fields.Limit 0 cap
  rounds ← number_at ms fields.Rounds 0 255
  entries ← entries_at ms
  rows ← rows_in cap None 1 entries
  reached ← provided (nat_eq (last_upto rows) cap) CapMismatch rows
  bounds ← bounds_at ms
  apart ← apart_from (row_with (codes "bounds") 1 entries) BadBounds bounds
  opening ← opening_at ms
  first ← apart_from (row_with (codes "opening") 1 entries) BadOpening opening
  Ok (record { cap = cap; limit = limit; rounds = rounds; rows = reached; bounds = apart; opening = first })

-- UTF-8 in which TOML has this table
abbrev pub IsDocument : List ℕ → Members → Type 0
IsDocument text ms = IsUtf8 text × (parse_document text ≡ Some ms)

abbrev pub IsText : List ℕ → Type 0
IsText text = (ms : Members) × IsDocument text ms

abbrev pub IsTextOf : List ℕ → Result Table StrategyFlaw → Type 0
IsTextOf text said = (ms : Members) × IsDocument text ms × (table_in ms ≡ said)
