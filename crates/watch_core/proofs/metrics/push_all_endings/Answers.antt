use Rattle.std.proofs.lemmas.Result.{on_ok_weaker}
use Rattle.watch_core.specs.MetricTexts.{all_endings_text}
use Rattle.watch_core.proofs.Joined.{joined_three}
use Rattle.watch_core.proofs.metrics.push_all_endings.Goals as goal

pub returns : goal.returns
unfolding all_endings_text
returns c = on_ok_weaker c.push_counter.result
    (λ d. joined_three _ _ _ _ _ _ _ c.in_ok-push_endings.ensures c.in_ok-push_endings-2.ensures d)
    c.push_counter.ensures
