-- What the check returns, beside what the definitions say.
--     fault_number f             the number of a fault
--     fault_of f, error_of e     a fault as the definitions have it; an error of ranks as one of the check
--     FindsAccepted, Checks and ChecksWith say what is accepted, or the same fault, unless memory ran out
use Rattle.std.specs.Prelude.{◌≡◌, ℕ, List, Option, Some, None, Result, Ok, Err, IsOk}
use Rattle.definitions.specs.Strategies.{Table}
use Rattle.definitions.specs.Ranks as ranks
use Rattle.definitions.specs.Ranks.{check_fault, check_with_fault, first_long, found}
use Rattle.definitions.specs.Refusals as codes
use Rattle.strategy_check.specs.declared.rank_fault.RankFault.TheVariants as rank_faults
use Rattle.strategy_check.specs.declared.rank_fault.RankError.{RankError}
use Rattle.strategy_check.specs.declared.rank_fault.RankError.TheVariants as rank_errors
use Rattle.strategy_check.specs.Checked.{Checked}
use Rattle.strategy_check.specs.declared.fault.CheckFault.{CheckFault}
use Rattle.strategy_check.specs.declared.fault.CheckFault.TheVariants.{ListTooLong, NoDescent, TooDeep, BadCertificate}
use Rattle.strategy_check.specs.declared.fault.CheckError.{CheckError}
use Rattle.strategy_check.specs.declared.fault.CheckError.TheVariants as errors

abbrev pub fault_number : CheckFault → ℕ
fault_number (ListTooLong upto) = codes.list_too_long
fault_number (NoDescent count) = codes.no_descent
fault_number (TooDeep count rank) = codes.too_deep
fault_number (BadCertificate count) = codes.bad_certificate

abbrev pub fault_of : CheckFault → ranks.CheckFault
fault_of (ListTooLong upto) = ranks.List_too_long upto
fault_of (NoDescent count) = ranks.No_descent count
fault_of (TooDeep count rank) = ranks.Too_deep count rank
fault_of (BadCertificate count) = ranks.Bad_certificate count

abbrev pub error_of : RankError → CheckError
error_of rank_errors.Memory = errors.Memory
error_of (rank_errors.Fault (rank_faults.NoDescent count)) = errors.Fault (NoDescent count)
error_of (rank_errors.Fault (rank_faults.BadCertificate count)) = errors.Fault (BadCertificate count)

-- the reason why the table is refused; memory runs out only where no row lists past the limit, and there are ranks
abbrev pub Refuses : CheckError → Table → Type 0
Refuses errors.Memory T = (first_long T ≡ None) × IsOk (found T)
Refuses (errors.Fault f) T = check_fault T ≡ Some (fault_of f)

-- the least ranks of a table that is accepted
abbrev pub FindsAccepted : Result (List ℕ) CheckError → Table → Type 0
FindsAccepted (Ok steps) T = (check_fault T ≡ None) × (found T ≡ Ok steps)
FindsAccepted (Err e) T = Refuses e T

-- the same; the table comes back with the reason
abbrev pub Checks : Result Checked (Table × CheckError) → Table → Type 0
Checks (Ok a) T = (a.table ≡ T) × (check_fault T ≡ None) × (found T ≡ Ok a.steps)
Checks (Err e) T = (e.0 ≡ T) × Refuses e.1 T

-- with ranks that were brought: what is accepted has these, or both come back with the reason
abbrev pub ChecksWith : Result Checked (Table × List ℕ × CheckFault) → Table → List ℕ → Type 0
ChecksWith (Ok a) T steps = (a ≡ record { table = T; steps = steps }) × (check_with_fault T steps ≡ None)
ChecksWith (Err e) T steps = (e.0 ≡ T) × (e.1 ≡ steps) × (check_with_fault T steps ≡ Some (fault_of e.2))

-- nothing, or the reason
abbrev pub Passes : {A : Type 0} → Result A CheckFault → Option ranks.CheckFault → Type 0
Passes (Ok x) fault = fault ≡ None
Passes (Err f) fault = fault ≡ Some (fault_of f)
