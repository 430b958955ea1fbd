-- What one call did.
--     is_ready g               its session is to be opened
--     IsIdle, IsBusy, IsDone   a greeting that waits, that goes on soon, that asks for its session
--     LeavesGreeting .. result why a greeting's call left off, and which way failed where one did
--     GreetsSo .. result       nothing was lost, and the bytes are counted, unless the call failed
--     EndsGreeting, RestsGreeting      its input is over only where the last read found the end; nothing is read then
use Rattle.std.specs.Prelude.{◌≡◌, ◌⊎◌, ◌<◌, ◌≤◌, ℕ, ◌+◌, ◌-◌, ◌^◌, ◌||◌, min, Bool, true, false, List, [], length}
use Rattle.std.specs.Prelude.{Option, Result, Ok, Err}
use Rattle.session_core.specs.Links.{count_of, Fails}
use Rattle.session_core.specs.declared.fault.LinkFault.{LinkFault}
use Rattle.session_core.specs.declared.polled.Last.{Last}
use Rattle.session_core.specs.declared.polled.Last.TheVariants as lasts
use Rattle.session_core.specs.declared.pumped.Pause.{Pause}
use Rattle.session_core.specs.declared.pumped.Pause.TheVariants as pauses
use Rattle.session_core.specs.declared.pumped.Pumped.{Pumped}
use Rattle.hub_core.specs.Firsts.{is_due}
use Rattle.hub_core.specs.Greetings.{GreetingState, Greets}

abbrev pub GreetsSo : GreetingState → GreetingState → Option (List ℕ) → Option (List ℕ) → Option (List ℕ) →
    Option (List ℕ) → Result Pumped LinkFault → Type 0
GreetsSo g h unread left held holds (Ok s) = (read said : List ℕ) × Greets g h unread left held holds read said []
    × (s.read ≡ count_of read) × (s.written ≡ count_of said)
GreetsSo g h unread left held holds (Err f) =
    (read said lost : List ℕ) × Greets g h unread left held holds read said lost

-- the session is to be opened: the first message is judged, or the input has ended
abbrev pub is_ready : GreetingState → Bool
is_ready g = g.over || is_due g.came

-- our hello is due, and there was no room to write it; or no byte of it is due, the session is not to be opened, and
-- nothing was there to read
abbrev pub IsIdle : GreetingState → Last → Last → Type 0
IsIdle g r w = ((4 ≤ length g.came) × (g.said < 4) × (w ≡ lasts.Waits))
    ⊎ ((4 ≤ length g.came → g.said ≡ 4) × (is_ready g ≡ false) × (r ≡ lasts.Waits))

-- bytes were read or written, the last call was interrupted, or the end of the input was read
abbrev pub IsBusy : GreetingState → Last → Last → ℕ → ℕ → Type 0
IsBusy g r w read written =
    (0 < read + written) ⊎ (r ≡ lasts.Interrupted) ⊎ (w ≡ lasts.Interrupted) ⊎ ((r ≡ lasts.Ended) × (g.over ≡ true))

-- the session is to be opened, and all of our hello is written if the peer's has come
abbrev pub IsDone : GreetingState → Type 0
IsDone g = (is_ready g ≡ true) × (4 ≤ length g.came → g.said ≡ 4)

abbrev pub LeavesAt : Pause → GreetingState → Last → Last → ℕ → ℕ → Type 0
LeavesAt pauses.Waits g r w read written = IsIdle g r w
LeavesAt pauses.More g r w read written = IsBusy g r w read written
LeavesAt pauses.Opens g r w read written = IsDone g
LeavesAt pauses.Over g r w read written = ⊥

abbrev pub LeavesGreeting : GreetingState → Last → Last → Result Pumped LinkFault → Type 0
LeavesGreeting g r w (Ok s) = LeavesAt s.pause g r w s.read s.written
LeavesGreeting g r w (Err f) = Fails {X = Pumped} (Err f) r w

abbrev pub EndsGreeting : GreetingState → GreetingState → Last → Type 0
EndsGreeting g h last = h.over ≡ true → (g.over ≡ true) ⊎ (last ≡ lasts.Ended)

abbrev pub RestsGreeting : GreetingState → GreetingState → Last → Last → Type 0
RestsGreeting g h before after = g.over ≡ true → (h.over ≡ true) × (after ≡ before)
