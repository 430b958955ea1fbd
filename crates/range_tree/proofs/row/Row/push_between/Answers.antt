use Rattle.std.proofs.Common.{◌++◌, ◌∙◌, ap}
use Rattle.std.proofs.lemmas.Result.{on_ok_weaker}
use Rattle.range_tree.proofs.row.Row.push_between.Goals as goal

pub returns : goal.returns
returns g c =
    on_ok_weaker c.push_between.result (λ d. d ∙ ap (λ xs. c.args.held.now.items ++ xs) c.nodes_at.ensures)
    c.push_between.ensures
