use Rattle.range_tree.proofs.Pieces.{first_read}
use Rattle.range_tree.proofs.leaf.Leaf.of.Goals as goal

pub invariant_of-result : goal.invariant_of-result
invariant_of-result c = record {
  leads = first_read c.args.packed c.item-first.result c.item-first.ensures;
  some = c.requires.some;
  small = c.requires.small;
}
