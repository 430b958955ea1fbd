use Rattle.store_core.proofs.Made.{set_of_is_set, has_set_of}
use Rattle.store_core.proofs.set_laws.set_of_a_list.Goals as goal

pub returns : goal.returns
returns c = record { set = set_of_is_set; has = has_set_of }
