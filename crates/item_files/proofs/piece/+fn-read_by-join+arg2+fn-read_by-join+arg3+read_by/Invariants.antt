use Rattle.item_files.proofs.piece.+fn-read_by-join+arg2+fn-read_by-join+arg3+read_by.Given as goal

abbrev pub decreases-join+arg2 : goal.decreases-join+arg2
decreases-join+arg2 g l = l.less

abbrev pub decreases-join+arg3 : goal.decreases-join+arg3
decreases-join+arg3 g l = l.less

abbrev pub decreases-read_by : goal.decreases-read_by
decreases-read_by g l = l.halvings
