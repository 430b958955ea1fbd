use Rattle.std.proofs.Common.{◌≡◌, ◌++◌, string_bytes, take}
use Rattle.std.specs.Prelude.{flat_map}
use Rattle.watch_core.specs.MetricTexts.{bucket_line}
use Rattle.watch_core.proofs.metrics.push_buckets.Given as goal

abbrev pub invariant-loop-bucket : goal.invariant-loop-bucket
invariant-loop-bucket l =
    string_bytes l.text ≡ string_bytes l.fn.text ++ flat_map bucket_line (take l.bucket-index l.buckets)
