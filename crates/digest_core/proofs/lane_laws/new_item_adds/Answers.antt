use Rattle.digest_core.proofs.Unions.{new_item}
use Rattle.digest_core.proofs.lane_laws.new_item_adds.Goals as goal

pub returns : goal.returns
returns c = new_item
