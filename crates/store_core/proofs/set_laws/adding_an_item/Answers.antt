use Rattle.definitions.proofs.Additions.{set_add}
use Rattle.store_core.proofs.Made.{has_add, add_again}
use Rattle.store_core.proofs.set_laws.adding_an_item.Goals as goal

pub returns : goal.returns
returns c = record { set = set_add; has = has_add; again = add_again }
