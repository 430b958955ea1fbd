use Rattle.std.proofs.Common.{◌≡◌, ◌++◌, take}
use Rattle.std.specs.Prelude.{flat_map}
use Rattle.watch_core.specs.MetricTexts.{label_byte}
use Rattle.watch_core.proofs.partner_metrics.push_label.Given as goal

abbrev pub invariant-loop-byte : goal.invariant-loop-byte
invariant-loop-byte l = l.text.items ≡ l.fn.text.items ++ flat_map label_byte (take l.byte-index l.bytes)
