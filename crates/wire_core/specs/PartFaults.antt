-- The number of the reason why a part that is made has no spelling.
use Rattle.std.specs.Prelude.{ℕ}
use Rattle.definitions.specs.Refusals as codes
use Rattle.wire_core.specs.declared.fault.PartFault.{PartFault}
use Rattle.wire_core.specs.declared.fault.PartFault.TheVariants.{ItemOrder, ItemOutside, FrameLength}

abbrev pub part_fault_number : PartFault → ℕ
part_fault_number ItemOrder = codes.item_order
part_fault_number ItemOutside = codes.item_outside
part_fault_number FrameLength = codes.frame_length
