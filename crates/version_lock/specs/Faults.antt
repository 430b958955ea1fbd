-- The numbers of the refusals.
use Rattle.std.specs.Prelude.{ℕ}
use Rattle.definitions.specs.Refusals.{busy, full, no_memory}
use Rattle.version_lock.specs.declared.fault.PinFault.{PinFault}
use Rattle.version_lock.specs.declared.fault.PinFault.TheVariants as pin_faults
use Rattle.version_lock.specs.declared.fault.InsertFault.{InsertFault}
use Rattle.version_lock.specs.declared.fault.InsertFault.TheVariants as insert_faults

abbrev pub pin_fault_number : PinFault → ℕ
pin_fault_number pin_faults.Busy = busy
pin_fault_number pin_faults.Memory = no_memory

abbrev pub insert_fault_number : InsertFault → ℕ
insert_fault_number insert_faults.Busy = busy
insert_fault_number insert_faults.Full = full
insert_fault_number insert_faults.Memory = no_memory
