-- What each kind of step tells its seat.
use Rattle.std.specs.Prelude.{◌≡◌, ◌≢◌, ℕ, ◌+◌, ◌≤◌, [], ◌∷◌, length, Option, Some}
use Rattle.atomic_table.specs.Table.{Me}
use Rattle.definitions.specs.Histories.{content}
use Rattle.version_log.specs.Logs.{LogState, IsLog, with_writer_given}
use Rattle.version_lock.specs.declared.view.View.{View}
use Rattle.version_lock.specs.Beginnings.{Entry}
use Rattle.version_lock.specs.Lawful.{Fits}
use Rattle.version_lock.specs.Views.{HasWhole, MadeBy, found, with_entry, waited, holding, gave_back, added, enrolled}

-- a seat's view, and the slots that it holds
abbrev pub Mine : Type 0
Mine = Me (Option LogState) View

-- the word was FREE: the seat has the log, which its view fits
pub record Took (m m' : Mine) : Type 0 where
  pub log : LogState
  pub is_log : IsLog log
  pub fits : Fits log m.0
  -- its set has no more items than the cap
  pub room : length (content log.history) ≤ m.0.cap
  pub whole : HasWhole m.0 → MadeBy m.0 log.history log.next_writer
  pub now : m' ≡ (holding log m.0, (0, Some log) ∷ [])

-- the word was HELD
abbrev pub Missed : Mine → Mine → Type 0
Missed m m' = m' ≡ (waited (m.0.busy + 1) m.0, m.1)

-- an exchange of the word against HELD
abbrev pub Tried : Mine → ℕ → Mine → Type 0
Tried m before m' = (before ≡ 0 → Took m m') × (before ≢ 0 → Missed m m')

-- the log is given back as it was
abbrev pub GaveBack : Mine → Mine → Type 0
GaveBack m m' = m.1 ≡ (0, Some (found m.0)) ∷ [] → m' ≡ (gave_back m.0, [])

-- the log is given back with one entry more, whatever the entry is
abbrev pub Added : Mine → Mine → Type 0
Added m m' = (e : Entry) → m.1 ≡ (0, Some (with_entry (found m.0) e)) ∷ [] → m' ≡ (added e m.0, [])

-- the log is given back with one writer number given out
abbrev pub Enrolled : Mine → Mine → Type 0
Enrolled m m' = m.1 ≡ (0, Some (with_writer_given (found m.0))) ∷ [] → m' ≡ (enrolled m.0, [])
