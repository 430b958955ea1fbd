-- What a table counts.
--     no_totals                      the counts of a new table
--     with_opened T, with_message T  the counts after a session was opened, after a message
--     with_closed kind T             the counts after a session was closed so
--     closed_count T                 the sessions that were closed
use Rattle.std.specs.Prelude.{ℕ, ◌+◌, ◌-◌, ◌^◌, min}
use Rattle.session_table.specs.declared.totals.Totals.{Totals}
use Rattle.session_table.specs.declared.totals.CloseKind.{CloseKind}
use Rattle.session_table.specs.declared.totals.CloseKind.TheVariants.{Ended, Refused, Io, Memory}

abbrev pub no_totals : Totals
no_totals = record { opened = 0; ended = 0; refused = 0; io = 0; memory = 0; messages = 0 }

-- the greatest count of messages
abbrev pub most_messages : ℕ
most_messages = 2 ^ 64 - 1

abbrev pub with_opened : Totals → Totals
with_opened T = record T { opened = T.opened + 1 }

-- the count of messages stays at its greatest value
abbrev pub with_message : Totals → Totals
with_message T = record T { messages = min (T.messages + 1) most_messages }

abbrev pub with_closed : CloseKind → Totals → Totals
with_closed Ended T = record T { ended = T.ended + 1 }
with_closed Refused T = record T { refused = T.refused + 1 }
with_closed Io T = record T { io = T.io + 1 }
with_closed Memory T = record T { memory = T.memory + 1 }

abbrev pub closed_count : Totals → ℕ
closed_count T = T.ended + T.refused + T.io + T.memory
