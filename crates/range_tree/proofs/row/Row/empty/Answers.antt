use Rattle.range_tree.proofs.Rows.{row_none, heads_none}
use Rattle.range_tree.proofs.row.Row.empty.Goals as goal

pub invariant_of-result : goal.invariant_of-result
invariant_of-result g c =
    rw (c.new.ensures.items, c.new-2.ensures.items, c.new-3.ensures.items, c.new-4.ensures.items)
    (row_none g.P.Node.content, heads_none)
