-- A table of sessions as plain data.
--     Table, IsTable t               a table; what holds of each
--     new_table capacity serial      a table as it is made
--     first_serial t                 the serial that it began with
--     live_count t, session_of t i   the number of live sessions; the live session that an id names
--     Opened, Noted, Closed          a table before and after a session was opened, a message noted, a session closed
--     IsLater old new                what holds after any number of calls
use Rattle.std.specs.Prelude.{◌≡◌, ◌≢◌, ℕ, ◌+◌, ◌-◌, ◌<◌, ◌≤◌, ◌^◌, List, [], Option, Some, None, is_some, count_by}
use Rattle.std.specs.Prelude.{slice_index_or, option_map}
use Rattle.session_table.specs.Sessions.{LiveSession, Id, with_serial, with_one_more}
use Rattle.session_table.specs.Counts.{no_totals, with_opened, with_message, with_closed, closed_count, most_messages}
use Rattle.session_table.specs.declared.totals.Totals.{Totals}
use Rattle.session_table.specs.declared.totals.CloseKind.{CloseKind}

pub record Table : Type 0 where
  -- the greatest number of live sessions
  pub capacity : ℕ
  -- the serial of the next session; `end_of_serials` where none is left
  pub next : ℕ
  -- the live session, if any, at each key from 0 on
  pub sessions : List (Option LiveSession)
  pub totals : Totals

-- serials are below this
abbrev pub end_of_serials : ℕ
end_of_serials = 2 ^ 64

abbrev pub IsCapacity : ℕ → Type 0
IsCapacity capacity = (1 ≤ capacity) × (capacity ≤ 1024)

abbrev pub IsSerial : ℕ → Type 0
IsSerial serial = (1 ≤ serial) × (serial < end_of_serials)

abbrev pub new_table : ℕ → ℕ → Table
new_table capacity serial = record { capacity = capacity; next = serial; sessions = []; totals = no_totals }

abbrev pub live_count : Table → ℕ
live_count t = count_by is_some t.sessions

abbrev pub session_at : Table → ℕ → Option LiveSession
session_at t key = slice_index_or t.sessions key None

-- the live session that this id names
abbrev pub session_of : Table → Id → Option LiveSession
session_of t i = with_serial i.serial (session_at t i.key)

-- the serial of the session that was opened first, or is to be
abbrev pub first_serial : Table → ℕ
first_serial t = t.next - t.totals.opened

-- what holds of each live session
pub record IsLive (t : Table) (s : LiveSession) : Type 0 where
  pub within : s.sent ≤ s.bound
  pub from_first : first_serial t ≤ s.serial
  pub before_next : s.serial < t.next

-- what holds of each table
pub record IsTable (t : Table) : Type 0 where
  pub capacity : IsCapacity t.capacity
  pub fits : live_count t ≤ t.capacity
  pub first : 1 ≤ first_serial t
  pub next : t.next ≤ end_of_serials
  -- each session that was opened is live or was closed in one of the four ways
  pub totals : t.totals.opened ≡ live_count t + closed_count t.totals
  pub messages : t.totals.messages ≤ most_messages
  pub live : (key : ℕ) (s : LiveSession) → session_at t key ≡ Some s → IsLive t s
  -- no two live sessions have one serial
  pub once : (key other : ℕ) (s u : LiveSession) → session_at t key ≡ Some s → session_at t other ≡ Some u →
      s.serial ≡ u.serial → key ≡ other

-- the id names this after, and every other id names what it named before; the capacity is the same
pub record Changes (old new : Table) (i : Id) (session : Option LiveSession) : Type 0 where
  pub changed : session_of new i ≡ session
  pub others : (other : Id) → other ≢ i → session_of new other ≡ session_of old other
  pub capacity : new.capacity ≡ old.capacity

-- a session with this bound was opened under the id, with the next serial
pub record Opened (old new : Table) (i : Id) (bound : ℕ) : Type 0 where
  pub serial : i.serial ≡ old.next
  pub changes : Changes old new i (Some (record { serial = old.next; bound = bound; sent = 0 }))
  pub next : new.next ≡ old.next + 1
  pub live : live_count new ≡ live_count old + 1
  pub totals : new.totals ≡ with_opened old.totals

-- the id's session has sent one message more
pub record Noted (old new : Table) (i : Id) : Type 0 where
  pub changes : Changes old new i (option_map with_one_more (session_of old i))
  pub next : new.next ≡ old.next
  pub live : live_count new ≡ live_count old
  pub totals : new.totals ≡ with_message old.totals

-- the id's session is over
pub record Closed (old new : Table) (i : Id) (kind : CloseKind) : Type 0 where
  pub changes : Changes old new i None
  pub next : new.next ≡ old.next
  pub live : live_count new + 1 ≡ live_count old
  pub totals : new.totals ≡ with_closed kind old.totals

-- what holds of a table and each later one: no serial is given out again, and what is closed stays closed
pub record IsLater (old new : Table) : Type 0 where
  pub first : first_serial new ≡ first_serial old
  pub next : old.next ≤ new.next
  -- an id with a serial given out before names no session where it named none
  pub closed : (i : Id) → i.serial < old.next → session_of old i ≡ None → session_of new i ≡ None
