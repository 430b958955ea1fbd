use Rattle.std.proofs.Common.{arith}
use Rattle.range_tree.proofs.Widths.{few_in_tree}
use Rattle.range_tree.proofs.tree.Tree.count_and_sum_counted.Goals as goal

pub returns-clause-steps : goal.returns-clause-steps
returns-clause-steps c low =
    let most = c.places-from.ensures.steps (few_in_tree c.args.self.now low) in
    omega arith
