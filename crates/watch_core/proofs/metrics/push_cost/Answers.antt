use Rattle.std.proofs.lemmas.Result.{on_ok_weaker}
use Rattle.watch_core.specs.MetricTexts.{cost_text}
use Rattle.watch_core.proofs.Joined.{joined_three}
use Rattle.watch_core.proofs.metrics.push_cost.Goals as goal

pub returns : goal.returns
unfolding cost_text
returns c = on_ok_weaker c.push_counter-3.result
    (λ d. joined_three _ _ _ _ _ _ _ c.in_ok-push_counter.ensures c.in_ok-push_counter-2.ensures d)
    c.push_counter-3.ensures
