use Rattle.laws.proofs.CompactLaws.{all_frames_bytes}
use Rattle.laws.proofs.compact.frames_are_bytes.Goals as goal

pub returns : goal.returns
returns g c = λ P real. all_frames_bytes P real
