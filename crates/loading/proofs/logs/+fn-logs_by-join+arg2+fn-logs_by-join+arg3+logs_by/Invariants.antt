use Rattle.loading.proofs.logs.+fn-logs_by-join+arg2+fn-logs_by-join+arg3+logs_by.Given as goal

abbrev pub decreases-join+arg2 : goal.decreases-join+arg2
decreases-join+arg2 g l = l.less

abbrev pub decreases-join+arg3 : goal.decreases-join+arg3
decreases-join+arg3 g l = l.less

abbrev pub decreases-logs_by : goal.decreases-logs_by
decreases-logs_by g l = l.halvings
