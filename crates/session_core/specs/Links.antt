-- What one call does to a session and to both ways of its stream.
--     count_of bytes             how many there are, up to the greatest number of 64 bits
--     Moves S W c d unread left held holds read said lost      these were read and pushed, these taken and written, and
--                                                              these read and lost
--     MovesSo .. result          nothing is lost, and the bytes are counted, unless the call failed
--     pause_at last fault        how a read or a write leaves off
--     IsWaiting, IsOver, IsMore, Stands      why a call left off
--     Fails result r w           which way failed, where one did
use Rattle.std.specs.Prelude.{◌≡◌, ℕ, ◌+◌, ◌-◌, ◌^◌, ◌<◌, ◌⊎◌, min, true, false, List, [], ◌++◌, length, Option}
use Rattle.std.specs.Prelude.{Result, Ok, Err, ⊤}
use Rattle.std.specs.Io.KnownBytes.{Consumes, Appends}
use Rattle.definitions.specs.Fingerprints.{Summary}
use Rattle.definitions.specs.Wire.{Profile}
use Rattle.definitions.specs.Ends.{is_live}
use Rattle.definitions.specs.Engines.{Speaker}
use Rattle.session_core.specs.Sessions.{SessionState, Knows, due, is_open}
use Rattle.session_core.specs.declared.fault.LinkFault.{LinkFault}
use Rattle.session_core.specs.declared.fault.LinkFault.TheVariants as faults
use Rattle.session_core.specs.declared.polled.Last.{Last}
use Rattle.session_core.specs.declared.polled.Last.TheVariants as lasts
use Rattle.session_core.specs.declared.pumped.Pause.{Pause}
use Rattle.session_core.specs.declared.pumped.Pause.TheVariants as pauses
use Rattle.session_core.specs.declared.pumped.Pumped.{Pumped}

abbrev pub count_of : List ℕ → ℕ
count_of bytes = min (length bytes) (2 ^ 64 - 1)

-- what two calls did, one after the other
abbrev pub both_of : Pumped → Pumped → Pumped
both_of p q = record {
  pause = q.pause;
  read = min (p.read + q.read) (2 ^ 64 - 1);
  written = min (p.written + q.written) (2 ^ 64 - 1);
}

abbrev pub pause_at : Last → LinkFault → Result Pause LinkFault
pause_at lasts.Waits fault = Ok pauses.Waits
pause_at lasts.Failed fault = Err fault
pause_at last fault = Ok pauses.More

-- the way whose call failed; where memory ran out, neither
abbrev pub Fails : {X : Type 0} → Result X LinkFault → Last → Last → Type 0
Fails (Ok x) r w = ⊤
Fails (Err faults.Read) r w = r ≡ lasts.Failed
Fails (Err faults.Write) r w = w ≡ lasts.Failed
Fails (Err faults.Memory) r w = ⊤

module _ {F : Type 0} (S : Summary F) (W : Profile F) where
  pub record Moves (c d : SessionState F) (unread left held holds : Option (List ℕ)) (read said lost : List ℕ) :
      Type 0 where
    pub consumed : Consumes unread left (read ++ lost)
    pub appended : Appends held holds said
    -- whatever was pushed and taken before, the bytes read were pushed after it, and the bytes written were taken
    pub knows : (s : Speaker F) (pushed taken : List ℕ) → is_live s.start.stage ≡ true →
        Knows S W s c pushed taken → Knows S W s d (pushed ++ read) (taken ++ said)

  abbrev pub MovesSo : SessionState F → SessionState F → Option (List ℕ) → Option (List ℕ) → Option (List ℕ) →
      Option (List ℕ) → Result Pumped LinkFault → Type 0
  MovesSo c d unread left held holds (Ok p) = (read said : List ℕ) × Moves c d unread left held holds read said []
      × (p.read ≡ count_of read) × (p.written ≡ count_of said)
  MovesSo c d unread left held holds (Err e) =
      (read said lost : List ℕ) × Moves c d unread left held holds read said lost

module _ {F : Type 0} (W : Profile F) where
  -- something is due, and the writer would wait; or nothing is, the session goes on, and the reader would wait
  abbrev pub IsWaiting : SessionState F → Last → Last → Type 0
  IsWaiting d r w = ((0 < length d.talk.outbox.ready) × (w ≡ lasts.Waits))
      ⊎ ((due W d.talk ≡ []) × (is_open d.talk.state ≡ true) × (r ≡ lasts.Waits))

  -- the session does not go on, and nothing is due
  abbrev pub IsOver : SessionState F → Type 0
  IsOver d = (is_open d.talk.state ≡ false) × (due W d.talk ≡ [])

  -- bytes were read or written, the last call was interrupted, or the input has ended
  abbrev pub IsMore : SessionState F → Last → Last → ℕ → ℕ → Type 0
  IsMore d r w read written =
      (0 < read + written) ⊎ (r ≡ lasts.Interrupted) ⊎ (w ≡ lasts.Interrupted) ⊎ (d.over ≡ true)

  abbrev pub StandsAt : Pause → SessionState F → Last → Last → ℕ → ℕ → Type 0
  StandsAt pauses.Waits d r w read written = IsWaiting d r w
  StandsAt pauses.Over d r w read written = IsOver d
  StandsAt pauses.More d r w read written = IsMore d r w read written
  StandsAt pauses.Opens d r w read written = ⊥

  abbrev pub Stands : Result Pumped LinkFault → SessionState F → Last → Last → Type 0
  Stands (Ok p) d r w = StandsAt p.pause d r w p.read p.written
  Stands (Err e) d r w = ⊤
