-- A published history as plain data.
--     LogState, IsLog l                     a cap, a history and the next writer number; what holds of each log
--     opened cap items next_writer     a log as it is opened
--     log_after l writer x answer      the log after an insert with this answer
--     with_writer_given l              the log after its next writer number was given out
use Rattle.std.specs.Prelude.{ℕ, ◌+◌, ◌<◌, ◌≤◌, List, length, Option, Some, None}
use Rattle.std.specs.List.{AllByRecursion}
use Rattle.definitions.specs.Items.{Item}
use Rattle.definitions.specs.Histories.{History, IsHistory, opening_history, Insertion, history_after}

pub record LogState : Type 0 where
  -- the greatest number of items
  pub cap : ℕ
  -- who brought which item, in order
  pub history : History
  -- the writer number that is given out next
  pub next_writer : ℕ

-- the greatest cap
abbrev pub max_cap : ℕ
max_cap = 65536

-- writers have four bytes, so this is the greatest next one
abbrev pub max_next_writer : ℕ
max_next_writer = 4294967296

abbrev pub IsCap : ℕ → Type 0
IsCap cap = (1 ≤ cap) × (cap ≤ max_cap)

abbrev pub IsNextWriter : ℕ → Type 0
IsNextWriter next = (1 ≤ next) × (next ≤ max_next_writer)

-- what holds of each log
pub record IsLog (l : LogState) : Type 0 where
  pub once : IsHistory l.history
  pub fits : length l.history ≤ l.cap
  pub cap : IsCap l.cap
  pub writers : AllByRecursion (λ e. e.0 < l.next_writer) l.history
  pub next_writer : IsNextWriter l.next_writer

abbrev pub log : ℕ → History → ℕ → LogState
log cap h next_writer = record { cap = cap; history = h; next_writer = next_writer }

-- the log as it is opened with these items
abbrev pub opened : ℕ → List Item → ℕ → LogState
opened cap items next_writer = log cap (opening_history items) next_writer

-- the log after an insert with this answer; without one, where memory ran out, nothing changes
abbrev pub log_after : LogState → ℕ → Item → Option Insertion → LogState
log_after l writer x (Some answer) = record l { history = history_after l.history writer x answer }
log_after l writer x None = l

abbrev pub with_writer_given : LogState → LogState
with_writer_given l = record l { next_writer = l.next_writer + 1 }
