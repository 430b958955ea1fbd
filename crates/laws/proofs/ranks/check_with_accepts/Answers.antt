use Rattle.laws.proofs.Checks.{accepted_with, no_fault_with, check_with_accepts}
use Rattle.laws.proofs.ranks.check_with_accepts.Goals as goal

pub returns : goal.returns
returns c = record {
  exact = λ T steps. (accepted_with T steps, λ a. no_fault_with T steps a.0 a.1 a.2);
  accepted = check_with_accepts;
}
