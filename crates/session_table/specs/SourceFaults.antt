-- The numbers of refusals.
use Rattle.std.specs.Prelude.{ℕ}
use Rattle.definitions.specs.Refusals.{accept, no_memory}
use Rattle.session_table.specs.declared.source.SourceFault.{SourceFault}
use Rattle.session_table.specs.declared.source.SourceFault.TheVariants.{Accept, Memory}

abbrev pub source_fault_number : SourceFault → ℕ
source_fault_number Accept = accept
source_fault_number Memory = no_memory
