-- Why no reply was written, by what refused; and numbers.
use Rattle.std.specs.Prelude.{ℕ}
use Rattle.definitions.specs.Refusals.{misplaced, no_memory}
use Rattle.wire_core.specs.declared.fault.DecodeError.{DecodeError}
use Rattle.wire_core.specs.declared.fault.DecodeError.TheVariants as errors
use Rattle.io_core.specs.declared.input.InputFault.{InputFault}
use Rattle.io_core.specs.declared.input.InputFault.TheVariants as inputs
use Rattle.ends_core.specs.declared.listing.ListReplyFault.{ListReplyFault}
use Rattle.ends_core.specs.declared.listing.ListReplyFault.TheVariants as lists
use Rattle.ends_core.specs.declared.answering.AnswerFault.{AnswerFault}
use Rattle.ends_core.specs.declared.answering.AnswerFault.TheVariants.{CannotRead, Wire, Misplaced, Memory}

abbrev pub of_input : InputFault → AnswerFault
of_input (inputs.CannotRead f) = CannotRead
of_input inputs.Memory = Memory

abbrev pub of_decoding : DecodeError → AnswerFault
of_decoding (errors.Fault f) = Wire f
of_decoding errors.Memory = Memory

abbrev pub of_listing : ListReplyFault → AnswerFault
of_listing lists.Misplaced = Misplaced
of_listing lists.Memory = Memory

abbrev pub list_fault_number : ListReplyFault → ℕ
list_fault_number lists.Misplaced = misplaced
list_fault_number lists.Memory = no_memory
