-- When a session is told that its input is over.
--     after_read, after_write given    what a read or a write did that gave this
--     EndsBy c d last                  it is told so only where the last read found the end, and goes no further then
--     Rests c d before after           of one that does not go on nothing is read
use Rattle.std.specs.Prelude.{◌≡◌, ℕ, zero, suc, ◌⊎◌, true, false, Result, Ok, Err}
use Rattle.std.specs.IoError.{error_kind}
use Rattle.std.specs.declared.io.Error.{Error}
use Rattle.session_core.specs.Polls.{stopped_by}
use Rattle.session_core.specs.Sessions.{SessionState, is_open}
use Rattle.session_core.specs.declared.polled.Last.{Last}
use Rattle.session_core.specs.declared.polled.Last.TheVariants as lasts

abbrev pub after_read : Result ℕ Error → Last
after_read (Ok zero) = lasts.Ended
after_read (Ok (suc n)) = lasts.Moved
after_read (Err e) = stopped_by (error_kind e)

abbrev pub after_write : Result ℕ Error → Last
after_write (Ok zero) = lasts.Failed
after_write (Ok (suc n)) = lasts.Moved
after_write (Err e) = stopped_by (error_kind e)

abbrev pub EndsBy : {F : Type 0} → SessionState F → SessionState F → Last → Type 0
EndsBy c d last = d.over ≡ true → (c.over ≡ true) ⊎ ((last ≡ lasts.Ended) × (is_open d.talk.state ≡ false))

abbrev pub Rests : {F : Type 0} → SessionState F → SessionState F → Last → Last → Type 0
Rests c d before after = is_open c.talk.state ≡ false →
    (d.over ≡ c.over) × (is_open d.talk.state ≡ false) × (after ≡ before)
