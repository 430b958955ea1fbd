use Rattle.peer_loops.proofs.serving.+fn-run_half-join+arg2+fn-run_half-join+arg3+run_half.Given as goal

abbrev pub decreases-join+arg2 : goal.decreases-join+arg2
decreases-join+arg2 g l = l.front.count

abbrev pub decreases-join+arg3 : goal.decreases-join+arg3
decreases-join+arg3 g l = l.back.count

abbrev pub decreases-run_half : goal.decreases-run_half
decreases-run_half g l = l.span.count
