-- Why files are refused.
--     of_strategy e, of_check e      the fault of a text that is no strategy, or of one that is not accepted
--     IsSetOf items_in form text cap result   what an item file in this form gives: the set of its items; or its first
--                                             bad line, or that the set has more items than cap; or memory ran out
use Rattle.std.specs.Prelude.{ℕ, ◌≡◌, ◌≤◌, ◌<◌, List, length, Result, Ok, Err, ⊤}
use Rattle.definitions.specs.Items.{Item}
use Rattle.definitions.specs.Sets.{set_of}
use Rattle.strategy_core.specs.declared.fault.StrategyError.{StrategyError}
use Rattle.strategy_core.specs.declared.fault.StrategyError.TheVariants as strategies
use Rattle.strategy_check.specs.declared.fault.CheckError.{CheckError}
use Rattle.strategy_check.specs.declared.fault.CheckError.TheVariants as checks
use Rattle.item_files.specs.ItemFiles.{file_items}
use Rattle.item_files.specs.declared.form.ItemForm.{ItemForm}
use Rattle.item_files.specs.declared.fault.SettingsFault.{SettingsFault}
use Rattle.item_files.specs.declared.fault.SettingsFault.TheVariants.{BadItemLine, TooManyItems, NotToml, Strategy}
use Rattle.item_files.specs.declared.fault.SettingsFault.TheVariants.{Check, Memory}

abbrev pub of_strategy : StrategyError → SettingsFault
of_strategy strategies.NotToml = NotToml
of_strategy (strategies.Fault flaw) = Strategy flaw
of_strategy strategies.Memory = Memory

abbrev pub of_check : CheckError → SettingsFault
of_check (checks.Fault f) = Check f
of_check checks.Memory = Memory

abbrev pub IsSetFault : ItemForm → List ℕ → ℕ → SettingsFault → Type 0
IsSetFault form text cap (BadItemLine bad) = file_items form text ≡ Err bad
IsSetFault form text cap (TooManyItems most count) = (items : List Item) × (file_items form text ≡ Ok items)
    × (cap < length (set_of items)) × (most ≡ cap) × (count ≡ length (set_of items))
IsSetFault form text cap Memory = ⊤
IsSetFault form text cap f = ⊥

abbrev pub IsSetOf : {X : Type 0} → (X → List Item) → ItemForm → List ℕ → ℕ → Result X SettingsFault → Type 0
IsSetOf items_in form text cap (Ok set) = (items : List Item) × (file_items form text ≡ Ok items)
    × (items_in set ≡ set_of items) × (length (set_of items) ≤ cap)
IsSetOf items_in form text cap (Err fault) = IsSetFault form text cap fault
