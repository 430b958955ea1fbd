-- Why a call is refused.
--     embedded_fault_number f                the number of a refusal
--     of_settings, of_log, of_split          the faults of other crates
--     IsUnfit text f                     the text holds no accepted strategy, for this reason
--     IsStrategy of text result          what a text gives: its strategy, accepted; or why not
use Rattle.std.specs.Prelude.{ℕ, List, Result, Ok, Err, ⊤}
use Rattle.definitions.specs.Refusals as codes
use Rattle.item_core.specs.declared.item.LengthFault.{LengthFault}
use Rattle.item_core.specs.declared.item.LengthFault.TheVariants as lengths
use Rattle.strategy_core.specs.Refused as strategy
use Rattle.strategy_check.specs.Checked.{Checked}
use Rattle.strategy_check.specs.Refused as check
use Rattle.item_files.specs.Accepts.{IsAcceptedOf}
use Rattle.item_files.specs.declared.fault.SettingsFault.{SettingsFault}
use Rattle.item_files.specs.declared.fault.SettingsFault.TheVariants as settings
use Rattle.version_log.specs.declared.answer.LogFault.{LogFault}
use Rattle.version_log.specs.declared.answer.LogFault.TheVariants as logs
use Rattle.shard_core.specs.declared.fault.SplitFault.{SplitFault}
use Rattle.shard_core.specs.declared.fault.SplitFault.TheVariants as splits
use Rattle.rangesync_c.specs.declared.fault.EmbeddedFault.{EmbeddedFault}
use Rattle.rangesync_c.specs.declared.fault.EmbeddedFault.TheVariants as faults

abbrev pub length_fault_number : LengthFault → ℕ
length_fault_number lengths.Empty = codes.empty_item
length_fault_number lengths.TooLong = codes.too_long

abbrev pub embedded_fault_number : EmbeddedFault → ℕ
embedded_fault_number faults.NotToml = codes.not_toml
embedded_fault_number (faults.Strategy flaw) = strategy.fault_number flaw.fault
embedded_fault_number (faults.Check f) = check.fault_number f
embedded_fault_number faults.Full = 40
embedded_fault_number (faults.Length f) = length_fault_number f
embedded_fault_number faults.EmptyRange = 73
embedded_fault_number faults.BadItemLine = 81
embedded_fault_number faults.TooManyItems = 82
embedded_fault_number faults.Memory = 90

abbrev pub of_settings : SettingsFault → EmbeddedFault
of_settings (settings.CannotRead f) = faults.Memory
of_settings (settings.BadItemLine bad) = faults.BadItemLine
of_settings (settings.TooManyItems cap count) = faults.TooManyItems
of_settings settings.NotToml = faults.NotToml
of_settings (settings.Strategy flaw) = faults.Strategy flaw
of_settings (settings.Check f) = faults.Check f
of_settings settings.Memory = faults.Memory

abbrev pub of_log : LogFault → EmbeddedFault
of_log logs.Full = faults.Full
of_log logs.Memory = faults.Memory

abbrev pub of_split : SplitFault → EmbeddedFault
of_split (splits.TooManyItems shard) = faults.TooManyItems
of_split splits.Memory = faults.Memory

-- the text holds no strategy, or one that is not accepted, for this reason; or memory ran out
abbrev pub IsUnfit : List ℕ → EmbeddedFault → Type 0
IsUnfit text faults.NotToml = IsAcceptedOf text (Err settings.NotToml)
IsUnfit text (faults.Strategy flaw) = IsAcceptedOf text (Err (settings.Strategy flaw))
IsUnfit text (faults.Check f) = IsAcceptedOf text (Err (settings.Check f))
IsUnfit text faults.Memory = ⊤
IsUnfit text f = ⊥

-- what a text gives: its strategy, accepted; or why not
abbrev pub IsStrategy : {X : Type 0} → (X → Checked) → List ℕ → Result X EmbeddedFault → Type 0
IsStrategy of text (Ok x) = IsAcceptedOf text (Ok (of x))
IsStrategy of text (Err f) = IsUnfit text f
