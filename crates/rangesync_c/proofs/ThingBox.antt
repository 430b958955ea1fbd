-- A handle owns what a loose box of a `Thing` owns, and both own what a box of it does: the pointer, the handle of the
-- allocator, the value that the pointer points to and the right to free it. What the pointer's type names is no part of
-- that, since the machine has one type of pointer. So a handle is read as a box too, by the steps of `loose.rt`.
use mathlib.Core.List.{[]}
use mir.Syntax.{Sym, impl, tnil, dnil}
use denote.RattleType.{RattleType}
use Rattle.std.specs.Prelude.{Some}
use Rattle.std_alloc.proofs.BoxSteps.Form.{Bx, D}
use Rattle.std_heap.specs.contracts.Global as global
use Rattle.std_heap.specs.contracts.GlobalAllocator.TheImpl as allocator
use Rattle.std_heap.proofs.Global.TheLaws as of_global
use Rattle.rangesync_c.specs.contracts.held.Thing as thing
use Rattle.rangesync_c.specs.contracts.held.Held as held
use Rattle.rangesync_c.specs.contracts.held.Slot as slot
use Rattle.rangesync_c.proofs.held.Thing.TheLaws as of_thing
use Rattle.rangesync_c.specs.contracts.loose.Loose as loose

-- a `Thing` in a `Box` of the heap
abbrev pub E : Bx
E = record {
  row = thing.the_row;
  laws = of_thing.the_row_laws;
  al = record {
    row = global.the_row;
    laws = of_global.the_row_laws;
    g = allocator.ghosts;
    d = allocator.dict;
    drops = impl [] tnil dnil;
  };
}

abbrev pub Loosened : RattleType
Loosened = loose.the_row thing.the_row global.the_row allocator.ghosts

abbrev pub Handle : RattleType
Handle = held.the_row

-- what MIR calls the structs
abbrev pub loose_name : Sym
loose_name = (loose.struct thing.the_row global.the_row allocator.ghosts).name

abbrev pub handle_name : Sym
handle_name = held.struct.name

abbrev pub slot_name : Sym
slot_name = slot.struct.name

-- the handle's box, and the handle with the parts of a box
abbrev pub boxed : Handle.Denot → D E
boxed h = record { ptr = h.at; alloc = h.alloc; value = h.value }

abbrev pub handle_of : D E → Handle.Denot
handle_of b = record { at = b.ptr; alloc = b.alloc; value = b.value }

-- and the slot where a handle is
abbrev pub slot_of : D E → slot.the_row.Denot
slot_of b = record { at = b.ptr; alloc = b.alloc; value = Some b.value }
