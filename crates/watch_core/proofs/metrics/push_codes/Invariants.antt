use Rattle.std.proofs.Common.{◌≡◌, ◌++◌, string_bytes, drop}
use Rattle.watch_core.specs.MetricTexts.{code_lines}
use Rattle.watch_core.proofs.metrics.push_codes.Given as goal

abbrev pub invariant-loop-code : goal.invariant-loop-code
invariant-loop-code l =
    string_bytes l.text ++ code_lines l.label.name.now l.label.outcome.now l.code (drop l.code l.counts)
    ≡ string_bytes l.fn.text ++ code_lines l.label.name.now l.label.outcome.now 0 l.counts
