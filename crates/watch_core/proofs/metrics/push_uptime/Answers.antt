use Rattle.std.proofs.lemmas.Result.{on_ok_weaker}
use Rattle.watch_core.specs.MetricTexts.{uptime_text}
use Rattle.watch_core.proofs.Joined.{joined}
use Rattle.watch_core.proofs.metrics.push_uptime.Goals as goal

pub returns : goal.returns
unfolding uptime_text
returns c = on_ok_weaker c.push_seconds_line.result
    (λ d. joined _ _ _ _ _ c.in_ok-push_head.ensures d)
    c.push_seconds_line.ensures
