-- Why a run is refused, by what refused, and its status.
--     of_answer, of_input, of_decoding, of_listing, of_log, of_source     the fault of what a lower call answers
--     IsWordsStatus f status     the status of a call whose words ask for nothing that is done
--     status_of f                the status of a run that ends so
use Rattle.std.specs.Prelude.{ℕ, ◌≡◌, ◌⊎◌}
use Rattle.wire_core.specs.declared.fault.DecodeError.{DecodeError}
use Rattle.wire_core.specs.declared.fault.DecodeError.TheVariants as errors
use Rattle.io_core.specs.declared.input.InputFault.{InputFault}
use Rattle.io_core.specs.declared.input.InputFault.TheVariants as inputs
use Rattle.ends_core.specs.declared.listing.ListReplyFault.{ListReplyFault}
use Rattle.ends_core.specs.declared.listing.ListReplyFault.TheVariants as lists
use Rattle.ends_core.specs.declared.answering.AnswerFault.{AnswerFault}
use Rattle.ends_core.specs.declared.answering.AnswerFault.TheVariants as answers
use Rattle.settings_core.specs.declared.words.WordsFault.{WordsFault}
use Rattle.settings_core.specs.declared.words.WordsFault.TheVariants as words
use Rattle.version_log.specs.declared.answer.LogFault.{LogFault}
use Rattle.version_log.specs.declared.answer.LogFault.TheVariants as logs
use Rattle.session_table.specs.declared.source.SourceFault.{SourceFault}
use Rattle.session_table.specs.declared.source.SourceFault.TheVariants as sources
use Rattle.printing_core.specs.declared.fault.Fault.{Fault}
use Rattle.printing_core.specs.declared.fault.Fault.TheVariants.{CannotRead, TooManyItems, Wire, Misplaced, Bind}
use Rattle.printing_core.specs.declared.fault.Fault.TheVariants.{Connect, Accept, ReaderFailed, WriterFailed, LinesLost}
use Rattle.printing_core.specs.declared.fault.Fault.TheVariants.{Incomplete, Memory}

abbrev pub of_answer : AnswerFault → Fault
of_answer answers.CannotRead = CannotRead
of_answer (answers.Wire f) = Wire f
of_answer answers.Misplaced = Misplaced
of_answer answers.Io = WriterFailed
of_answer answers.Memory = Memory

abbrev pub of_input : InputFault → Fault
of_input (inputs.CannotRead f) = CannotRead
of_input inputs.Memory = Memory

abbrev pub of_decoding : DecodeError → Fault
of_decoding (errors.Fault f) = Wire f
of_decoding errors.Memory = Memory

abbrev pub of_listing : ListReplyFault → Fault
of_listing lists.Misplaced = Misplaced
of_listing lists.Memory = Memory

abbrev pub of_log : LogFault → Fault
of_log logs.Full = TooManyItems
of_log logs.Memory = Memory

abbrev pub of_source : SourceFault → Fault
of_source sources.Accept = Accept
of_source sources.Memory = Memory

-- 1 where something given, or a session, is refused, 3 for a file, an input, an output, the network, memory, or shards
-- that were not done
abbrev pub status_of : Fault → ℕ
status_of CannotRead = 3
status_of Bind = 3
status_of Connect = 3
status_of Accept = 3
status_of ReaderFailed = 3
status_of WriterFailed = 3
status_of LinesLost = 3
status_of Incomplete = 3
status_of Memory = 3
status_of fault = 1

-- 2 for words that the program does not know; 0 for help that was printed, 3 where it was not, or for memory
abbrev pub IsWordsStatus : WordsFault → ℕ → Type 0
IsWordsStatus (words.Usage text) status = status ≡ 2
IsWordsStatus (words.Help text) status = (status ≡ 0) ⊎ (status ≡ 3)
IsWordsStatus words.Memory status = status ≡ 3
