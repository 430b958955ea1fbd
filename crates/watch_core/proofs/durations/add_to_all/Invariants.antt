use Rattle.std.proofs.Common.{◌≡◌, ℕ, ◌<◌, ◌≤◌}
use Rattle.watch_core.specs.Counting.{bucket_at, with_duration}
use Rattle.watch_core.proofs.durations.add_to_all.Given as goal

abbrev pub invariant-loop-bucket : goal.invariant-loop-bucket
invariant-loop-bucket l =
    ((k : ℕ) → k < l.bucket-index → bucket_at l.buckets k ≡ with_duration l.millis (bucket_at l.fn.buckets k))
    × ((k : ℕ) → l.bucket-index ≤ k → bucket_at l.buckets k ≡ bucket_at l.fn.buckets k)
