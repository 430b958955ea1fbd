-- What a packer has read, and what a call of it appends.
--     PackerState               the bound come to, and what is kept of the next frame
--     packed_state p            where packing leaves it
--     TakesFrame read left x    the event that was read, and what is left; or none, where no whole frame stands there
use Rattle.std.specs.Prelude.{◌≡◌, ℕ, List, Option, Some, None, Result, Ok, Err, ⊤}
use Rattle.definitions.specs.Wire as wire
use Rattle.definitions.specs.Packing.{Packed}
use Rattle.wire_core.specs.Events.{event_value}
use Rattle.wire_core.specs.declared.event.Event as declared

pub record PackerState : Type 0 where
  pub to : Option (List ℕ)
  pub kept : List ℕ

abbrev pub packed_state : Packed → PackerState
packed_state p = record { to = p.to; kept = p.kept }

abbrev pub NoFrame : {X : Type 0} → Result (Option X) ℕ → Type 0
NoFrame (Ok (Some x)) = ⊥
NoFrame (Ok None) = ⊤
NoFrame (Err code) = ⊤

abbrev pub TakesFrame : {F : Type 0} → Result (Option (wire.Event F × List ℕ)) ℕ → List ℕ → Option (declared.Event F) →
    Type 0
TakesFrame read left (Some e) = read ≡ Ok (Some (event_value e, left))
TakesFrame read left None = NoFrame read
