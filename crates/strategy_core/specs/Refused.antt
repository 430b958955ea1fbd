-- What the readers return, beside what a text or a table says.
--     fault_number f             the number of a fault
--     error_in_row n e           the error in the row of this number
--     GivesField, Gives          the same value or the same fault, unless memory ran out
--     Opens, Reads               the table of a text, and the strategy; memory may run out of UTF-8 alone
use Rattle.std.specs.Prelude.{◌≡◌, ℕ, List, Some, String, Result, Ok, Err, IsUtf8, ⊤}
use Rattle.std.specs.BTreeMap.{BTreeMap}
use Rattle.std.specs.declared.alloc.Global.{Global}
use Rattle.toml.specs.View.{table_view}
use Rattle.toml.specs.declared.value.Value.{Value}
use Rattle.definitions.specs.Strategies.{Table}
use Rattle.definitions.specs.Refusals as codes
use Rattle.strategy_core.specs.Texts.{IsDocument, IsText, IsTextOf, whole}
use Rattle.strategy_core.specs.declared.fault.StrategyFault.{StrategyFault}
use Rattle.strategy_core.specs.declared.fault.StrategyFault.TheVariants.{Missing, BadNumber, RowOrder, RowAction}
use Rattle.strategy_core.specs.declared.fault.StrategyFault.TheVariants.{CapMismatch, BadBounds, BadOpening}
use Rattle.strategy_core.specs.declared.fault.StrategyFlaw.{StrategyFlaw}
use Rattle.strategy_core.specs.declared.fault.StrategyError.{StrategyError}
use Rattle.strategy_core.specs.declared.fault.StrategyError.TheVariants as errors

abbrev pub fault_number : StrategyFault → ℕ
fault_number (Missing field) = codes.missing_field
fault_number (BadNumber field least greatest) = codes.bad_number
fault_number RowOrder = codes.row_order
fault_number RowAction = codes.row_action
fault_number CapMismatch = codes.cap_mismatch
fault_number BadBounds = codes.bad_bounds
fault_number BadOpening = codes.bad_opening

abbrev pub error_in_row : ℕ → StrategyError → StrategyError
error_in_row n (errors.Fault flaw) = errors.Fault (record { fault = flaw.fault; row = Some n })
error_in_row n e = e

abbrev pub GivesField : {X Y : Type 0} → (X → Y) → Result X StrategyFault → Result Y StrategyFlaw → Type 0
GivesField view (Ok x) said = said ≡ Ok (view x)
GivesField view (Err f) said = said ≡ Err (whole f)

abbrev pub Fails : {Y : Type 0} → StrategyError → Result Y StrategyFlaw → Type 0
Fails errors.NotToml said = ⊥
Fails (errors.Fault flaw) said = said ≡ Err flaw
Fails errors.Memory said = ⊤

abbrev pub Gives : {X Y : Type 0} → (X → Y) → Result X StrategyError → Result Y StrategyFlaw → Type 0
Gives view (Ok x) said = said ≡ Ok (view x)
Gives view (Err e) said = Fails e said

-- the table of a text, or that there is none
abbrev pub Opens : Result (BTreeMap (String Global) Value) StrategyError → List ℕ → Type 0
Opens (Ok table) text = IsDocument text (table_view table)
Opens (Err errors.NotToml) text = IsText text → ⊥
Opens (Err (errors.Fault flaw)) text = ⊥
Opens (Err errors.Memory) text = IsUtf8 text

-- the strategy of a text, or the fault of its table, or that there is none
abbrev pub Reads : Result Table StrategyError → List ℕ → Type 0
Reads (Ok T) text = IsTextOf text (Ok T)
Reads (Err errors.NotToml) text = IsText text → ⊥
Reads (Err (errors.Fault flaw)) text = IsTextOf text (Err flaw)
Reads (Err errors.Memory) text = IsUtf8 text
