use Rattle.laws.proofs.CompactLaws.{same_frames_same_bytes}
use Rattle.laws.proofs.compact.same_frames_same_bytes.Goals as goal

pub returns : goal.returns
returns g c = λ P real. same_frames_same_bytes P real
