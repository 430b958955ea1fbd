use Rattle.laws.proofs.CompactLaws.{all_kept_short}
use Rattle.laws.proofs.compact.kept_is_short.Goals as goal

pub returns : goal.returns
returns g c = λ P real. all_kept_short P real
