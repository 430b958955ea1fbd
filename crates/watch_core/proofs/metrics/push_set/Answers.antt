use Rattle.std.proofs.lemmas.Result.{on_ok_weaker}
use Rattle.watch_core.specs.MetricTexts.{set_text}
use Rattle.watch_core.proofs.Joined.{joined_three}
use Rattle.watch_core.proofs.metrics.push_set.Goals as goal

pub returns : goal.returns
unfolding set_text
returns c = on_ok_weaker c.push_gauge-3.result
    (λ d. joined_three _ _ _ _ _ _ _ c.in_ok-push_gauge.ensures c.in_ok-push_gauge-2.ensures d) c.push_gauge-3.ensures
