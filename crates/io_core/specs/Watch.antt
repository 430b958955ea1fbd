-- What is seen of a watched reader or writer.
--     Watch T                    what is watched, whether it failed and why, whether it ended, how often it was read
--     one_more reads             a read more is counted, up to the greatest number
--     failed_read, ended_read, failed_write, fault_read     what one call adds
use Rattle.std.specs.Prelude.{ℕ, Bool, true, false, ◌&&◌, ◌==◌, List, length, nat_lt, ◌+◌, ◌-◌, ◌^◌, min, Result, Ok}
use Rattle.std.specs.Prelude.{Err, Option, Some}
use Rattle.std.specs.IoError.{error_kind, raw_os_error}
use Rattle.std.specs.declared.io.Error.{Error}
use Rattle.io_core.specs.ReadFaults.{read_fault}
use Rattle.io_core.specs.declared.read_fault.ReadFault.{ReadFault}

pub record Watch (T : Type 0) : Type 0 where
  pub inner : T
  -- a call gave an error, or a write took no byte of a rest
  pub failed : Bool
  -- a read into room gave no byte
  pub ended : Bool
  -- how many reads there were
  pub reads : ℕ
  -- why the last read that failed did
  pub fault : Option ReadFault

abbrev pub one_more : ℕ → ℕ
one_more reads = min (reads + 1) (2 ^ 64 - 1)

abbrev pub failed_read : {E : Type 0} → Result ℕ E → Bool
failed_read (Ok n) = false
failed_read (Err e) = true

abbrev pub ended_read : {E : Type 0} → Result ℕ E → List ℕ → Bool
ended_read (Ok n) room = n == 0 && nat_lt 0 (length room)
ended_read (Err e) room = false

abbrev pub failed_write : {E : Type 0} → Result ℕ E → List ℕ → Bool
failed_write (Ok n) bytes = n == 0 && nat_lt 0 (length bytes)
failed_write (Err e) bytes = true

abbrev pub fault_read : Option ReadFault → Result ℕ Error → Option ReadFault
fault_read fault (Ok n) = fault
fault_read fault (Err e) = Some (read_fault (raw_os_error e) (error_kind e))
