-- A live session, and what names it.
use Rattle.std.specs.Prelude.{ℕ, ◌+◌, Option, Some, None, if◌then◌else◌, ◌==◌}

pub record LiveSession : Type 0 where
  pub serial : ℕ
  -- the greatest number of messages that it may send
  pub bound : ℕ
  -- the messages that it has sent
  pub sent : ℕ

-- what names a session: its place in the table, which later sessions use again, and its serial, which none does
pub record Id : Type 0 where
  pub key : ℕ
  pub serial : ℕ

-- the session, where it has this serial
abbrev pub with_serial : ℕ → Option LiveSession → Option LiveSession
with_serial serial None = None
with_serial serial (Some s) = if s.serial == serial then Some s else None

-- the session after one more message
abbrev pub with_one_more : LiveSession → LiveSession
with_one_more s = record s { sent = s.sent + 1 }
