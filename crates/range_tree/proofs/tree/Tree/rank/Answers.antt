use Rattle.std.proofs.Common.{◌≤◌, sym, subst, length}
use Rattle.definitions.specs.Items.{comes_before}
use Rattle.range_tree.specs.Nodes.{PassFirst}
use Rattle.range_tree.specs.Trees.{tree_items}
use Rattle.range_tree.proofs.Ranks.{count_passes, count_most}
use Rattle.range_tree.proofs.tree.Tree.rank.Goals as goal

pub returns-clause-places : goal.returns-clause-places
returns-clause-places c =
    let A = tree_items c.args.self.now in
    let x = c.args.item.now in
    subst (PassFirst (λ z. comes_before z x) A) (sym c.rank.ensures.place) (count_passes A x c.args.self.now.rises)

pub returns-clause-within : goal.returns-clause-within
returns-clause-within c =
    let A = tree_items c.args.self.now in
    subst (λ n. n ≤ length A) (sym c.rank.ensures.place) (count_most c.args.item.now A)
