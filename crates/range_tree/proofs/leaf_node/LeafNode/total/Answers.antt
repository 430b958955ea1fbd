use Rattle.std.proofs.Common.{◌∙◌, ap, arith, take_all}
use Rattle.definitions.specs.Fingerprints.{two_lanes}
use Rattle.range_tree.proofs.leaf_node.LeafNode.total.Goals as goal

pub returns : goal.returns
returns c = c.sum_before.ensures
    ∙ ap two_lanes.of (take_all c.len.result c.args.self.now.packed (omega (arith, c.len.ensures.length)))
