use Rattle.definitions.proofs.Partitions.{parted_below}
use Rattle.range_tree.proofs.Ranks.{count_is}
use Rattle.range_tree.proofs.leaf_node.LeafNode.rank.Goals as goal

pub search-requires : goal.search-requires
search-requires c = parted_below c.args.self.now.packed c.args.item.now c.requires

pub returns-clause-place : goal.returns-clause-place
returns-clause-place c =
    count_is c.args.item.now c.args.self.now.packed c.search.result.0 c.search.ensures.within c.search.ensures.parted

pub returns-clause-steps : goal.returns-clause-steps
returns-clause-steps c = c.search.ensures.steps c.args.self.now.small
