use Rattle.range_tree.proofs.tree_store.branches_of_one.Goals as goal

pub of-requires-2-clause-full : goal.of-requires-2-clause-full
of-requires-2-clause-full c = rw (c.in_ok-push.ensures.items, c.new-leaves.ensures.items) tt
