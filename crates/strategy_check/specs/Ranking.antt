-- What the calls return, beside what the definitions say.
--     fault_number f             the number of a fault
--     Finds, Brings, Fits        the same ranks or the same fault, unless memory ran out; of Finds that is only where
--                                there are ranks
--     FindsSo                    as Finds, but that memory may run out anyhow
--     Climbs                     the same for one turn of the loop
--     IsCutting                  the number of some shares, and the greatest
use Rattle.std.specs.Prelude.{◌≡◌, ℕ, List, length, Option, Some, None, Result, Ok, Err, IsOk, ⊤}
use Rattle.strategy_core.specs.Acts.{greatest}
use Rattle.strategy_core.specs.declared.act.Cutting.{Cutting}
use Rattle.definitions.specs.Climbs.{Climbing, Stuck_at, At}
use Rattle.definitions.specs.Refusals as codes
use Rattle.strategy_check.specs.declared.rank_fault.RankFault.{RankFault}
use Rattle.strategy_check.specs.declared.rank_fault.RankFault.TheVariants.{NoDescent, BadCertificate}
use Rattle.strategy_check.specs.declared.rank_fault.RankError.{RankError}
use Rattle.strategy_check.specs.declared.rank_fault.RankError.TheVariants as errors

abbrev pub fault_number : RankFault → ℕ
fault_number (NoDescent count) = codes.no_descent
fault_number (BadCertificate count) = codes.bad_certificate

-- the staircase that was found, or the count that is stuck
abbrev pub Finds : Result (List ℕ) RankError → Result (List ℕ) ℕ → Type 0
Finds (Ok steps) found = found ≡ Ok steps
Finds (Err errors.Memory) found = IsOk found
Finds (Err (errors.Fault (NoDescent count))) found = found ≡ Err count
Finds (Err (errors.Fault (BadCertificate count))) found = ⊥

abbrev pub FindsSo : Result (List ℕ) RankError → Result (List ℕ) ℕ → Type 0
FindsSo (Err errors.Memory) found = ⊤
FindsSo r found = Finds r found

-- the staircase that was brought, or the entry that is wrong
abbrev pub Brings : Result (List ℕ) RankError → List ℕ → Option ℕ → Type 0
Brings (Ok kept) steps fault = (kept ≡ steps) × (fault ≡ None)
Brings (Err errors.Memory) steps fault = ⊤
Brings (Err (errors.Fault (BadCertificate count))) steps fault = fault ≡ Some count
Brings (Err (errors.Fault (NoDescent count))) steps fault = ⊥

-- nothing, or the count that is unfit
abbrev pub Fits : {A : Type 0} → Result A ℕ → Option ℕ → Type 0
Fits (Ok x) unfit = unfit ≡ None
Fits (Err count) unfit = unfit ≡ Some count

-- the steps so far, or the count that is stuck
abbrev pub Climbs : {A : Type 0} → Result A RankError → List ℕ → Climbing → Type 0
Climbs (Ok x) steps climbed = climbed ≡ At steps
Climbs (Err errors.Memory) steps climbed = ⊤
Climbs (Err (errors.Fault (NoDescent count))) steps climbed = climbed ≡ Stuck_at count
Climbs (Err (errors.Fault (BadCertificate count))) steps climbed = ⊥

abbrev pub IsCutting : Cutting → List ℕ → Type 0
IsCutting cutting parts = (cutting.count ≡ length parts) × (cutting.greatest ≡ greatest parts)
