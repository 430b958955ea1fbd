-- The line that a fault prints.
--     accepted_text steps     the lines of a strategy that is accepted
--     strategy_line f  the line of a table that is no strategy
--     check_line f     the line of a strategy that is not accepted
--     fault_line f     the line, without its newline: `refused`, the number, the name and the values
use Rattle.std.specs.Prelude.{ℕ, List, [], ◌∷◌, ◌++◌, codes, flat_map}
use Rattle.std.specs.Fmt.{decimal}
use Rattle.wire_core.specs.Refused.{fault_number}
use Rattle.session_table.specs.Names.{session_refusal_name}
use Rattle.strategy_core.specs.Texts.{key_of}
use Rattle.strategy_core.specs.declared.fault.StrategyFault.{StrategyFault}
use Rattle.strategy_core.specs.declared.fault.StrategyFault.TheVariants.{Missing, BadNumber, RowOrder}
use Rattle.strategy_core.specs.declared.fault.StrategyFault.TheVariants.{RowAction, CapMismatch, BadBounds, BadOpening}
use Rattle.strategy_check.specs.declared.fault.CheckFault.{CheckFault}
use Rattle.strategy_check.specs.declared.fault.CheckFault.TheVariants.{NoDescent, ListTooLong, TooDeep, BadCertificate}
use Rattle.printing_core.specs.declared.fault.Fault.{Fault}
use Rattle.printing_core.specs.declared.fault.Fault.TheVariants.{CannotRead, BadItemLine, NotHex, TooManyItems}
use Rattle.printing_core.specs.declared.fault.Fault.TheVariants.{BadScenario, BadStep, NotToml, Strategy, Check, Wire}
use Rattle.printing_core.specs.declared.fault.Fault.TheVariants.{Misplaced, Bind, Connect, Accept, Session, PeerRefused}
use Rattle.printing_core.specs.declared.fault.Fault.TheVariants.{ReaderFailed}
use Rattle.printing_core.specs.declared.fault.Fault.TheVariants.{WriterFailed, LinesLost, Incomplete, Memory}

abbrev pub strategy_line : StrategyFault → List ℕ
strategy_line (Missing field) = codes "refused 31 Missing " ++ key_of field
strategy_line (BadNumber field least greatest) = codes "refused 32 BadNumber"
strategy_line RowOrder = codes "refused 33 RowOrder"
strategy_line RowAction = codes "refused 34 RowAction"
strategy_line CapMismatch = codes "refused 35 CapMismatch"
strategy_line BadBounds = codes "refused 29 BadBounds"
strategy_line BadOpening = codes "refused 28 BadOpening"

abbrev pub check_line : CheckFault → List ℕ
check_line (NoDescent count) = codes "refused 36 NoDescent " ++ decimal count
check_line (ListTooLong upto) = codes "refused 37 ListTooLong " ++ decimal upto
check_line (TooDeep count rank) = codes "refused 38 TooDeep " ++ (decimal count ++ (codes " " ++ decimal rank))
check_line (BadCertificate count) = codes "refused 39 BadCertificate " ++ decimal count

-- the line of every fault
abbrev pub fault_line : Fault → List ℕ
fault_line CannotRead = codes "refused 80 CannotRead"
fault_line (BadItemLine line) = codes "refused 81 BadItemLine " ++ decimal line
fault_line NotHex = codes "refused 81 BadItemLine 1"
fault_line TooManyItems = codes "refused 82 TooManyItems"
fault_line BadScenario = codes "refused 83 BadScenario"
fault_line (BadStep step) = codes "refused 84 BadStep " ++ decimal step
fault_line NotToml = codes "refused 30 NotToml"
fault_line (Strategy f) = strategy_line f
fault_line (Check f) = check_line f
fault_line (Wire f) =
    codes "refused " ++ (decimal (fault_number f) ++ (codes " " ++ session_refusal_name (fault_number f)))
fault_line Misplaced = codes "refused 20 Misplaced"
fault_line Bind = codes "refused 60 Bind"
fault_line Connect = codes "refused 61 Connect"
fault_line Accept = codes "refused 62 Accept"
fault_line (Session code) = codes "refused " ++ (decimal code ++ (codes " " ++ session_refusal_name code))
fault_line (PeerRefused code) = codes "peer refused " ++ decimal code
fault_line ReaderFailed = codes "io read"
fault_line WriterFailed = codes "io write"
fault_line LinesLost = codes "io write"
fault_line Incomplete = codes "incomplete"
fault_line Memory = codes "refused 90 Memory"

-- a space and the number
abbrev pub spaced : ℕ → List ℕ
spaced n = 32 ∷ decimal n

abbrev pub accepted_text : List ℕ → List ℕ
accepted_text steps = codes "accepted\nsteps" ++ (flat_map spaced steps ++ 10 ∷ [])
