use Rattle.std.proofs.Common.{rules}
use Rattle.std.proofs.lemmas.List.{append_assoc}
use Rattle.range_tree.proofs.row.Row.with_grown.Goals as goal

pub returns-in_ok-new-in-Two-2 : goal.returns-in_ok-new-in-Two-2
returns-in_ok-new-in-Two-2 g c = search (rules, append_assoc)
