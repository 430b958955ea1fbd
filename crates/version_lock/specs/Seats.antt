-- A seat of the lock, as callers see it.
use Rattle.atomic_table.specs.Seated.{TableId}
use Rattle.version_lock.specs.declared.view.View.{View}

-- which lock it is of, and what it knows
pub record SeatState : Type 0 where
  pub table_id : TableId
  pub view : View

abbrev pub seat_state : TableId → View → SeatState
seat_state lock v = record { table_id = lock; view = v }
