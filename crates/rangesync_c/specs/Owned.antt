-- What a handle owns: at its pointer a value, and the right to free the block there, as a box of that value does.
use base.Fml.{Fml, ftrue}
use denote.RawPtr.{Ptr}
use Rattle.std.specs.Box.Ownership.{box_owns}
use Rattle.std.specs.Global.{Global}
use Rattle.std.specs.Prelude.{Option, Some, None}
use Rattle.std_heap.specs.contracts.GlobalAllocator.TheImpl.{ghosts}
use Rattle.rangesync_c.specs.contracts.held.Thing.{the_row}

abbrev pub held_owns : Global → Ptr → the_row.Denot → Fml
held_owns alloc = box_owns (ghosts.dealloc_token alloc) the_row

-- and what a slot owns: the same once a handle is there, and nothing before
abbrev pub slot_owns : Global → Ptr → Option the_row.Denot → Fml
slot_owns alloc at (Some value) = held_owns alloc at value
slot_owns alloc at None = ftrue
