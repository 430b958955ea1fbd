use Rattle.laws.proofs.CompactLaws.{faults_numbered}
use Rattle.laws.proofs.compact.faults_keep_numbers.Goals as goal

pub returns : goal.returns
returns g c = λ P real. faults_numbered P real
