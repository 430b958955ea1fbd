use Rattle.range_tree.proofs.loading.+fn-leaves_by-join+arg2+fn-leaves_by-join+arg3+leaves_by.Given as goal

abbrev pub decreases-join+arg2 : goal.decreases-join+arg2
decreases-join+arg2 g l = l.less

abbrev pub decreases-join+arg3 : goal.decreases-join+arg3
decreases-join+arg3 g l = l.less

abbrev pub decreases-leaves_by : goal.decreases-leaves_by
decreases-leaves_by g l = l.halvings
