use Rattle.std.proofs.lemmas.Result.{on_ok_weaker}
use Rattle.watch_core.specs.MetricTexts.{found_text}
use Rattle.watch_core.proofs.Joined.{joined}
use Rattle.watch_core.proofs.metrics.push_found.Goals as goal

pub returns : goal.returns
unfolding found_text
returns c = on_ok_weaker c.push_counter-2.result
    (λ d. joined _ _ _ _ _ c.in_ok-push_counter.ensures d)
    c.push_counter-2.ensures
