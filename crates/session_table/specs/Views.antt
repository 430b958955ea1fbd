-- A table as its fields have it. No public clause cites this module.
use Rattle.std.specs.Prelude.{ℕ, Option, Some, None}
use Rattle.slab.specs.Slab.{Slab}
use Rattle.session_table.specs.Sessions.{LiveSession}
use Rattle.session_table.specs.Tables.{Table, end_of_serials}
use Rattle.session_table.specs.declared.totals.Totals.{Totals}

-- the next serial, as an option
abbrev pub next_number : Option ℕ → ℕ
next_number None = end_of_serials
next_number (Some serial) = serial

abbrev pub table_of : ℕ → Option ℕ → Slab LiveSession → Totals → Table
table_of capacity next sessions totals =
    record { capacity = capacity; next = next_number next; sessions = sessions.slots; totals = totals }
