-- The number of the reason why a message is not placed.
--     place_fault_number f        of a reason
--     fault_in result             of what a call answers, if it refuses
use Rattle.std.specs.Prelude.{ℕ, Option, Some, None, Result, Ok, Err}
use Rattle.definitions.specs.Refusals as codes
use Rattle.place_core.specs.declared.fault.PlaceFault.{PlaceFault}
use Rattle.place_core.specs.declared.fault.PlaceFault.TheVariants.{Misplaced, Stall, Gap, MissingAnswer, MarkCount}
use Rattle.place_core.specs.declared.fault.PlaceFault.TheVariants.{AnswerRepeats}

abbrev pub place_fault_number : PlaceFault → ℕ
place_fault_number Misplaced = codes.misplaced
place_fault_number Stall = codes.stall
place_fault_number Gap = codes.gap
place_fault_number MissingAnswer = codes.missing_answer
place_fault_number MarkCount = codes.mark_count
place_fault_number AnswerRepeats = codes.answer_repeats

abbrev pub fault_in : {X : Type 0} → Result X PlaceFault → Option ℕ
fault_in (Ok x) = None
fault_in (Err f) = Some (place_fault_number f)
