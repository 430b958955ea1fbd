-- Refusals and answers of a log.
use Rattle.std.specs.Prelude.{ℕ, Result, Ok, Err, Option, Some, None}
use Rattle.definitions.specs.Histories.{Insertion}
use Rattle.definitions.specs.Histories as histories
use Rattle.version_log.specs.declared.answer.Added.{Added}
use Rattle.version_log.specs.declared.answer.Added.TheVariants.{New, Already}
use Rattle.version_log.specs.declared.answer.LogFault.{LogFault}
use Rattle.version_log.specs.declared.answer.LogFault.TheVariants.{Full, Memory}

-- the number of the refusal
abbrev pub log_fault_number : LogFault → ℕ
log_fault_number Full = 40
log_fault_number Memory = 90

-- what `add` answered, as the definitions have it; None where memory ran out
abbrev pub insertion_in : Result Added LogFault → Option Insertion
insertion_in (Ok (New version)) = Some (histories.New version)
insertion_in (Ok Already) = Some histories.Already
insertion_in (Err Full) = Some histories.Full
insertion_in (Err Memory) = None
