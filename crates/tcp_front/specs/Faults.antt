-- The refusals of the network, by number.
use Rattle.std.specs.Prelude.{ℕ}
use Rattle.definitions.specs.Refusals as codes
use Rattle.tcp_front.specs.declared.fault.ListenFault.{ListenFault}
use Rattle.tcp_front.specs.declared.fault.ListenFault.TheVariants as listens
use Rattle.tcp_front.specs.declared.fault.ConnectFault.{ConnectFault}
use Rattle.tcp_front.specs.declared.fault.ConnectFault.TheVariants as connects

abbrev pub listen_fault_number : ListenFault → ℕ
listen_fault_number (listens.Unreached cause) = codes.bind
listen_fault_number listens.Memory = codes.no_memory

abbrev pub connect_fault_number : ConnectFault → ℕ
connect_fault_number (connects.Unreached cause) = codes.connect
connect_fault_number connects.Memory = codes.no_memory
