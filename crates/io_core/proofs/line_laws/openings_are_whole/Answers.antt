use Rattle.io_core.proofs.Cutting.{openings_whole}
use Rattle.io_core.proofs.line_laws.openings_are_whole.Goals as goal

pub returns : goal.returns
returns g c = openings_whole g.D.Device.held
