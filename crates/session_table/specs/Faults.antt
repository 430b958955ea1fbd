-- The refusals of a table, by number.
--     opening_fault t                 of `open`: for want of room, else for want of serials
--     note_fault t i, close_fault t i   of `note_sent` and `close`
--     fault_in result                 of what a call answers, if it refuses
use Rattle.std.specs.Prelude.{ℕ, Option, Some, None, Result, Ok, Err, if◌then◌else◌, ◌==◌}
use Rattle.definitions.specs.Refusals as codes
use Rattle.session_table.specs.Sessions.{LiveSession, Id}
use Rattle.session_table.specs.Tables.{Table, live_count, session_of, end_of_serials}
use Rattle.session_table.specs.declared.fault.TableFault.{TableFault}
use Rattle.session_table.specs.declared.fault.TableFault.TheVariants.{Full, Unknown, OverBound, SerialsSpent}

abbrev pub table_fault_number : TableFault → ℕ
table_fault_number Full = codes.table_full
table_fault_number Unknown = codes.unknown
table_fault_number OverBound = codes.over_bound
table_fault_number SerialsSpent = codes.serials_spent

abbrev pub opening_fault : Table → Option ℕ
opening_fault t = if live_count t == t.capacity then Some codes.table_full else if t.next == end_of_serials
    then Some codes.serials_spent else None

abbrev pub sending_fault : Option LiveSession → Option ℕ
sending_fault None = Some codes.unknown
sending_fault (Some s) = if s.sent == s.bound then Some codes.over_bound else None

abbrev pub closing_fault : Option LiveSession → Option ℕ
closing_fault None = Some codes.unknown
closing_fault (Some s) = None

abbrev pub note_fault : Table → Id → Option ℕ
note_fault t i = sending_fault (session_of t i)

abbrev pub close_fault : Table → Id → Option ℕ
close_fault t i = closing_fault (session_of t i)

abbrev pub fault_in : {X : Type 0} → Result X TableFault → Option ℕ
fault_in (Ok x) = None
fault_in (Err f) = Some (table_fault_number f)
