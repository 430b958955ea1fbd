use Rattle.std.proofs.Common.{◌≡◌, ◌++◌, drop}
use Rattle.watch_core.specs.PageTexts.{code_bars}
use Rattle.watch_core.proofs.page.push_code_bars.Given as goal

abbrev pub invariant-loop-code : goal.invariant-loop-code
invariant-loop-code l =
    l.page.items ++ code_bars l.word l.all l.code (drop l.code l.counts)
    ≡ l.fn.page.items ++ code_bars l.word l.all 0 l.counts
