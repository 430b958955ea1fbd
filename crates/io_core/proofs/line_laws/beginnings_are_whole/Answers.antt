use Rattle.io_core.proofs.Cutting.{beginnings_whole}
use Rattle.io_core.proofs.line_laws.beginnings_are_whole.Goals as goal

pub returns : goal.returns
returns c = beginnings_whole
