use Rattle.std.proofs.Common.{◌≡◌, ◌++◌, take}
use Rattle.std.specs.Prelude.{flat_map}
use Rattle.watch_core.specs.MetricTexts.{figure_line}
use Rattle.watch_core.proofs.partner_metrics.push_lines.Given as goal

abbrev pub invariant-loop-partner : goal.invariant-loop-partner
invariant-loop-partner l =
    l.text.items ≡ l.fn.text.items ++ flat_map (figure_line l.figure) (take l.partner-index l.partners)
