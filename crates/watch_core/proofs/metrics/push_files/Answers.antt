use Rattle.std.proofs.lemmas.Result.{on_ok_weaker}
use Rattle.watch_core.specs.MetricTexts.{files_text}
use Rattle.watch_core.proofs.Joined.{joined}
use Rattle.watch_core.proofs.metrics.push_files.Goals as goal

pub returns : goal.returns
unfolding files_text
returns c = on_ok_weaker c.push_counter.result
    (λ d. joined _ _ _ _ _ c.in_ok-push_gauge.ensures d)
    c.push_counter.ensures
