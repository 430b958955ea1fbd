use Rattle.std.proofs.Common.{refl, sym}
use Rattle.place_core.proofs.Walks.{open_lists}
use Rattle.place_core.proofs.cursor.finish_outside.Goals as goal

pub returns-then-has_list : goal.returns-then-has_list
returns-then-has_list g c = rw (open_lists c.args.left.now, sym c.has_list.ensures, c.if-has_list.true) refl

pub returns : goal.returns
returns g c = rw (open_lists c.args.left.now, sym c.has_list.ensures, c.if-has_list.false) refl
