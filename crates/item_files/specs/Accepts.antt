-- What a text or a table gives that is to be an accepted strategy.
--     IsAcceptedIn members result    of a table: it with its least ranks; or why it is refused, and where
--     IsAcceptedOf text result       of a text: the same of its table; or that the text is no TOML
--     Opens result text              the table of a text, or that there is none
use Rattle.std.specs.Prelude.{◌≡◌, ◌⊎◌, ℕ, List, String, Some, None, Result, Ok, Err, ⊤}
use Rattle.std.specs.BTreeMap.{BTreeMap}
use Rattle.std.specs.declared.alloc.Global.{Global}
use Rattle.toml.specs.Data.{Members}
use Rattle.toml.specs.View.{table_view}
use Rattle.toml.specs.declared.value.Value.{Value}
use Rattle.definitions.specs.Strategies.{Table}
use Rattle.definitions.specs.Ranks.{check_fault, found}
use Rattle.strategy_core.specs.Texts.{IsDocument, IsText, table_in}
use Rattle.strategy_check.specs.Checked.{Checked}
use Rattle.strategy_check.specs.Refused.{fault_of}
use Rattle.item_files.specs.declared.fault.SettingsFault.{SettingsFault}
use Rattle.item_files.specs.declared.fault.SettingsFault.TheVariants.{NotToml, Strategy, Check, Memory}

-- the first test that fails, and where; or why the strategy of the table is not accepted; or memory ran out
abbrev pub IsUnfitIn : Members → SettingsFault → Type 0
IsUnfitIn ms (Strategy flaw) = table_in ms ≡ Err flaw
IsUnfitIn ms (Check f) = (T : Table) × (table_in ms ≡ Ok T) × (check_fault T ≡ Some (fault_of f))
IsUnfitIn ms Memory = ⊤
IsUnfitIn ms f = ⊥

-- the strategy of the table, with the staircase of its least ranks
abbrev pub IsAcceptedIn : Members → Result Checked SettingsFault → Type 0
IsAcceptedIn ms (Ok a) = (table_in ms ≡ Ok a.table) × (check_fault a.table ≡ None) × (found a.table ≡ Ok a.steps)
IsAcceptedIn ms (Err e) = IsUnfitIn ms e

-- the text is no TOML; or memory ran out
abbrev pub IsNoTable : {X : Type 0} → List ℕ → Result X SettingsFault → Type 0
IsNoTable text (Err NotToml) = IsText text → ⊥
IsNoTable text (Err Memory) = ⊤
IsNoTable text result = ⊥

-- the table of a text, or that there is none
abbrev pub Opens : Result (BTreeMap (String Global) Value) SettingsFault → List ℕ → Type 0
Opens (Ok table) text = IsDocument text (table_view table)
Opens (Err e) text = IsNoTable {X = Checked} text (Err e)

-- the text is TOML, and its table gives this; or it is none
abbrev pub IsAcceptedOf : List ℕ → Result Checked SettingsFault → Type 0
IsAcceptedOf text result = IsNoTable text result ⊎ ((ms : Members) × IsDocument text ms × IsAcceptedIn ms result)
