-- Why there is no new node.
use Rattle.std.specs.Prelude.{ℕ}
use Rattle.version_log.specs.declared.answer.LogFault.{LogFault}
use Rattle.version_log.specs.declared.answer.LogFault.TheVariants as logs
use Rattle.world_core.specs.declared.setup.SetupFault.{SetupFault}
use Rattle.world_core.specs.declared.setup.SetupFault.TheVariants.{Full, Memory}

abbrev pub setup_fault_number : SetupFault → ℕ
setup_fault_number Full = 40
setup_fault_number Memory = 90

abbrev pub of_log : LogFault → SetupFault
of_log logs.Full = Full
of_log logs.Memory = Memory
