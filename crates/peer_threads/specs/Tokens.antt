-- What the table of sessions refused.
--     refusal_in result     the number by which it refused a call, if it did
use Rattle.std.specs.Prelude.{ℕ, Option, Some, None, Result, Ok, Err}
use Rattle.session_table.specs.Faults.{table_fault_number}
use Rattle.peer_threads.specs.declared.tokens.Refusal.{Refusal}

abbrev pub refusal_in : {X : Type 0} → Result X Refusal → Option ℕ
refusal_in (Ok x) = None
refusal_in (Err r) = Some (table_fault_number r.fault)
